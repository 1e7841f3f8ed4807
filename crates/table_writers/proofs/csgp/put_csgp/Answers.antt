-- Head, pairs and indices, one behind the other (`Body`), with the widths that the tally names.
use mathlib.Core.Path.{◌≡◌, ap, ◌∙◌}
use Prim.Native.Nat.{ℕ, ◌*◌, ◌<◌, ◌≤◌}
use native.Mathlib.Omega.{arith}
use mathlib.Core.List.{List}
use lib.ListN.{length}
use Rattle.base_fields.specs.Number.{field_bound}
use Rattle.table_csgp_head.specs.Csgp.{width_of}
use Rattle.table_rows.specs.Row.{Row, rows_of}
use Rattle.table_writing.specs.Bodies.{code_for, count_code, index_code, flags_of, csgp_bytes}
use Rattle.table_rows.specs.Joined.{joined}
use Rattle.table_writing.specs.Remaining.{largest_count, marked}
use Rattle.table_writing.proofs.Codes.{width-least}
use Rattle.table_writers.proofs.Answering.{tally-low, tally-marks, tally-needs, tally-flags, tally-length}
use Rattle.table_writers.proofs.Body.{pairs-ready, indices-ready, all-put}
use Rattle.table_writers.proofs.Walk.{remain_length}
use Rattle.table_writers.proofs.csgp.put_csgp.Goals as goal
use Rattle.table_writers.proofs.csgp.put_csgp.Goals.{After-put_head}

abbrev rows : After-put_head → List Row
rows c = joined (rows_of c.args.rows.now)

count-width : (c : After-put_head) → 4 * c.halves_for-counts.result ≡ width_of (count_code (rows c))
count-width c = c.halves_for-counts.ensures.0 ∙ ap (λ (n : ℕ). width_of (code_for n)) c.requires.1.count

index-width : (c : After-put_head) → 4 * c.halves_for-indices.result ≡ width_of (index_code (rows c))
index-width c =
    let rules = c.index_needs.ensures ∙ tally-needs c.args.rows.now c.args.t c.requires.1 in
    c.halves_for-indices.ensures.0 ∙ ap (λ (n : ℕ). width_of (code_for n)) rules

room : (c : After-put_head) → length (csgp_bytes c.args.grouping_type (rows c)) ≤ length c.args.out.now
room c = omega (arith, tally-length c.args.rows.now c.args.t c.requires.1 c.args.grouping_type, c.requires.2)

small : (c : After-put_head) → largest_count (rows c) < field_bound
small c = omega (arith, c.requires.1.count, c.requires.1.small)

flags : (c : After-put_head) → c.flags_of-flags.result ≡ flags_of (rows c)
flags c = c.flags_of-flags.ensures ∙ tally-flags c.args.rows.now c.args.t c.requires.1

marks : (c : After-put_head) → c.has_marks-marks.result ≡ marked (rows c)
marks c = c.has_marks-marks.ensures ∙ tally-marks c.args.rows.now c.args.t c.requires.1

pub flags_of-flags-requires : goal.flags_of-flags-requires
flags_of-flags-requires c = tally-low c.args.rows.now c.args.t c.requires.1

pub index_needs-requires : goal.index_needs-requires
index_needs-requires c = tally-low c.args.rows.now c.args.t c.requires.1

pub overflow_cast-t : goal.overflow_cast-t
overflow_cast-t c =
    omega (arith, c.requires.0, c.requires.1.rows, remain_length c.args.rows.now)

pub put_pairs-behind-requires : goal.put_pairs-behind-requires
put_pairs-behind-requires c =
    let h : After-put_head = (goal.at.put_pairs-behind-requires c).After-put_head in
    pairs-ready c.args.grouping_type (rows h) c.halves_for-counts.result c.halves_for-indices.result (count-width h) (index-width h)
    c.args.out.now (room h) (small h) c.halves_for-counts.ensures.1 c.halves_for-indices.ensures.1
    _ _ (flags h) c.requires.1.rows c.put_head.ensures

pub put_indices-requires : goal.put_indices-requires
put_indices-requires c =
    let h : After-put_head = (goal.at.put_indices-requires c).After-put_head in (
      indices-ready c.args.grouping_type (rows h) c.halves_for-counts.result c.halves_for-indices.result (count-width h) (index-width h)
          c.args.out.now (room h) (small h) c.halves_for-counts.ensures.1 c.halves_for-indices.ensures.1
          _ _ (flags h) c.requires.1.rows c.put_head.ensures
          c.put_pairs-behind.ensures.0 _ c.put_pairs-behind.ensures.1,
      omega (arith, index-width h, width-least (index_code (rows h))),
    )

pub returns : goal.returns
returns c =
    let h : After-put_head = (goal.at.returns c).After-put_head in
    all-put c.args.grouping_type (rows h) c.halves_for-counts.result c.halves_for-indices.result (count-width h) (index-width h)
    c.args.out.now (room h) (small h) c.halves_for-counts.ensures.1 c.halves_for-indices.ensures.1
    _ _ (flags h) c.requires.1.rows c.put_head.ensures
    c.put_pairs-behind.ensures.0 _ c.put_pairs-behind.ensures.1 (marks h) c.put_indices.ensures
