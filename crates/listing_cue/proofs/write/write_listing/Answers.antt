use mathlib.Core.Path.{◌≡◌, refl, sym, ◌∙◌}
use Prim.Native.Nat.{◌+◌, ◌<◌, ◌≤◌}
use native.Mathlib.Nat.{zero-add}
use native.Mathlib.Omega.{arith}
use lib.ListN.{length}
use lib.Seq.{drop-length}
use Rattle.table_rows.specs.Row.{rows_of}
use Rattle.table_rows.proofs.RowAt.{rows-length, from_row}
use Rattle.listing_cue.proofs.Writing.{begun-bytes, begun-ends, writing-first, row-means, row_fits, writing-none, writing-next, writing-last}
use Rattle.listing_cue.proofs.write.write_listing.Goals as goal
use Rattle.listing_cue.proofs.write.write_listing.Goals.{then-count-gt0, else-count-gt0}

pub loop-k-init : goal.loop-k-init
loop-k-init c =
    let a = c.args in
    (writing-first a.grouping_type a.s.now (rows_of a.rows.now) _ _ c.requires.read_whole.0 a.samples c.requires.samples_value.0 c.requires.samples_value.1 c.requires.read_whole.2 c.begin_listing-progress.ensures refl, omega arith, c.record_count-records.ensures, refl)

pub enter_run-progress-requires : goal.enter_run-progress-requires
enter_run-progress-requires c =
    let begun = c.begin_listing-progress in
    let a = c.args in
    let rows = a.rows.now in
    let k = c.loop-k.k in
    let h : k < length (rows_of rows) = omega (arith, rows-length rows) in
    let x = rw (from_row (rows_of rows) k h) at c.loop-k.invariant.0 in
    let n = c.count_at-count.ensures in
    let d = c.description_at.ensures in
    let some = rw n at c.if-count-gt0.true in
    let near = begun-ends a.grouping_type a.s.now (rows_of rows) a.samples c.requires.samples_value.0 begun.ensures in
    rw (n, d) record {
      read_whole = (c.requires.read_whole.0, c.requires.read_whole.1, row-means a.grouping_type a.s.now (rows_of rows) _ _ _ _ _ _ x some);
      in_hand = (x.held, x.alike, some, row_fits a.grouping_type a.s.now (rows_of rows) _ _ _ _ _ _ x, omega (arith, x.ends, near, c.requires.samples_value.2));
    }

pub loop-k-preserved : goal.loop-k-preserved
loop-k-preserved c =
    let a = c.args in
    let rows = a.rows.now in
    let k = c.loop-k.k in
    let h : k < length (rows_of rows) = omega (arith, rows-length rows) in
    let x = rw (from_row (rows_of rows) k h) at c.loop-k.invariant.0 in
    let n = c.count_at-count.ensures in
    let d = c.description_at.ensures in
    let within : k + 1 ≤ c.record_count-records.result = omega (arith, c.loop-k-test.true) in
    elim c.if-count-gt0.branch [
      | then-count-gt0 w ↦
          let told = rw (n, d) at w.enter_run-progress.ensures in
          (rw (w.memory-is, w.progress-is, w.out-is) (writing-next a.grouping_type a.s.now (rows_of rows) _ _ _ _ _ _ x told.0 told.1), within, c.loop-k.invariant.2, rw w.out-is (w.enter_run-progress.auto.out ∙ c.loop-k.invariant.3))
      | else-count-gt0 w ↦ (rw (w.memory-is, w.progress-is, w.out-is) (writing-none a.grouping_type a.s.now (rows_of rows) _ _ _ _ _ _ x (omega (arith, n, w.if-count-gt0.false))), within, c.loop-k.invariant.2, rw w.out-is c.loop-k.invariant.3)
    ]

pub close_stretch-requires : goal.close_stretch-requires
close_stretch-requires c =
    let begun = c.begin_listing-progress in
    let a = c.args in
    let rows = a.rows.now in
    let near = begun-ends a.grouping_type a.s.now (rows_of rows) a.samples c.requires.samples_value.0 begun.ensures in
    let x = c.loop-k.invariant.0 in
    ((a.head, c.requires.read_whole.0), x.held, omega (arith, x.ends, near, c.requires.samples_value.2))

pub returns : goal.returns
returns c =
    let begun = c.begin_listing-progress in
    let a = c.args in
    let rows = a.rows.now in
    let k = c.loop-k.k in
    let h : k ≡ length (rows_of rows) = omega (arith, rows-length rows) in
    let x = rw (h, drop-length (rows_of rows)) at c.loop-k.invariant.0 in
    let last = writing-last a.grouping_type a.s.now (rows_of rows) _ _ c.loop-k.progress _ x c.close_stretch.ensures in
    record {
      output = last.output ∙ sym (begun-bytes a.grouping_type a.s.now (rows_of rows) a.samples c.requires.samples_value.0 begun.ensures);
      next = last.next ∙ begun-ends a.grouping_type a.s.now (rows_of rows) a.samples c.requires.samples_value.0 begun.ensures ∙ sym (zero-add _);
    }
