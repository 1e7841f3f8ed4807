use mathlib.Core.Path.{◌≡◌, refl, sym, ◌∙◌}
use Prim.Native.Nat.{◌+◌, ◌<◌}
use native.Mathlib.Omega.{arith}
use borrow.Author.Rules.{rules}
use lib.ListN.{length, get_or, drop}
use Rattle.table_rows.specs.Row.{rows_of, no_row}
use Rattle.table_rows.proofs.RowAt.{rows-length}
use Rattle.table_writers.specs.Runs.{row}
use Rattle.table_writers.proofs.Walk.{join-skip, join_more, join-stop, join-end, join-largest}
use Rattle.table_writers.proofs.runs.join.Goals as goal
use Rattle.table_writers.proofs.runs.join.Goals.{then-more-ne0+else-description_at-index+else-total-more, else-more-ne0}

pub loop-k-init : goal.loop-k-init
loop-k-init c = (c.record_count-records.ensures, search rules, search rules, refl)

pub returns-then-description_at-index : goal.returns-then-description_at-index
returns-then-description_at-index c =
    let a = c.args in
    let rs = rows_of a.rows.now in
    let o = c.loop-k in
    let h : o.k < length rs = omega (arith, rows-length a.rows.now) in
    let some : 0 < (get_or rs o.k no_row).count = omega (arith, c.if-more-ne0.true, c.count_at-more.ensures) in
    record {
      rows = o.invariant.3 ∙ join-stop rs o.k h o.total a.index o.invariant.1 some (λ e. c.if-description_at-index.true (c.description_at.ensures ∙ sym e));
      small = o.invariant.2;
      onward = omega arith;
      inside = omega arith;
    }

pub returns-then-total-more : goal.returns-then-total-more
returns-then-total-more c =
    let a = c.args in
    let rs = rows_of a.rows.now in
    let o = c.loop-k in
    let h : o.k < length rs = omega (arith, rows-length a.rows.now) in
    let n = c.count_at-more.ensures in
    let some : 0 < (get_or rs o.k no_row).count = omega (arith, c.if-more-ne0.true, n) in
    let same = sym c.if-description_at-index.false ∙ c.description_at.ensures in
    let more = o.invariant.3 ∙ join_more rs o.k h o.total a.index o.invariant.1 some same in
    (refl, rw more (omega (arith, c.if-total-more.true, n, join-largest (row (o.total + (get_or rs o.k no_row).count) a.index) (drop (o.k + 1) rs) (omega arith))))

pub loop-k-preserved : goal.loop-k-preserved
loop-k-preserved c =
    let a = c.args in
    let rs = rows_of a.rows.now in
    let o = c.loop-k in
    let h : o.k < length rs = omega (arith, rows-length a.rows.now) in
    let n = c.count_at-more.ensures in
    elim c.if-more-ne0.branch [
      | then-more-ne0+else-description_at-index+else-total-more w ↦
          let some : 0 < (get_or rs o.k no_row).count = omega (arith, w.if-more-ne0.true, n) in
          let more = o.invariant.3 ∙ join_more rs o.k h o.total a.index o.invariant.1 some (sym w.if-description_at-index.false ∙ w.description_at.ensures) in
          (search rules, rw w.total-is (omega arith), rw w.total-is (omega (arith, w.if-total-more.false)), rw (w.total-is, n) more)
      | else-more-ne0 w ↦
          let skip = o.invariant.3 ∙ join-skip rs o.k h o.total a.index o.invariant.1 (rw n at w.if-more-ne0.false) in
          (search rules, rw w.total-is o.invariant.1, rw w.total-is o.invariant.2, rw w.total-is skip)
    ]

pub returns : goal.returns
returns c =
    let a = c.args in
    let o = c.loop-k in
    let n = c.record_count-records.ensures in
    let e : o.k ≡ c.record_count-records.result = omega arith in
    let h : o.k ≡ length (rows_of a.rows.now) = omega (arith, rows-length a.rows.now) in
    record {
      rows = rw e at (o.invariant.3 ∙ join-end (rows_of a.rows.now) o.k h o.total a.index o.invariant.1);
      small = o.invariant.2;
      onward = omega (arith, n);
      inside = omega (arith, n);
    }
