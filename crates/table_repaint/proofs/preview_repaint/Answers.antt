-- The checks in their order: 55, 70 for the run, the stretch and the total; then the count of the new rows.
use mathlib.Core.Path.{◌≡◌, ◌∙◌}
use Prim.Native.Nat.{◌≤◌}
use native.Mathlib.Omega.{arith}
use lib.ListN.{length-take}
use Rattle.base_fields.proofs.Answers.{given_inj, refused-given}
use Rattle.base_ids.specs.Limits.{record_limit}
use Rattle.table_rows.specs.Row.{covered, records_in}
use Rattle.table_repaint.specs.Repaint.{stated_rows}
use Rattle.table_repaint.proofs.Counts.{stated_counts}
use Rattle.table_repaint.proofs.Answer.{too_many, past-run, no_stretch, stated_total, past-total, by_rows}
use Rattle.table_repaint.proofs.preview_repaint.Goals as goal
use Rattle.table_repaint.proofs.preview_repaint.Goals.{Else-records-stated, In_ok-total}

pub returns-then-records-gt-RECORD_LIMIT : goal.returns-then-records-gt-RECORD_LIMIT
returns-then-records-gt-RECORD_LIMIT c = too_many _ _ _ _ _ (omega arith)

pub returns-then-records-stated : goal.returns-then-records-stated
returns-then-records-stated c = past-run _ _ _ _ _ (omega arith) (omega arith)

pub slice_bounds-covered_samples-end : goal.slice_bounds-covered_samples-end
slice_bounds-covered_samples-end c = simp length-take (omega arith)

-- the run is neither too long nor too short
module _ (c : Else-records-stated) where
  few : records_in c.args.rows.now ≤ record_limit
  few = omega arith

  fit : c.args.stated ≤ records_in c.args.rows.now
  fit = omega arith

pub returns-in_err-total : goal.returns-in_err-total
returns-in_err-total c =
    let run = (goal.at.returns-in_err-total c).Else-records-stated in
    absurd (refused-given (c.in_err-total.ensures ∙ stated_total _ _ (few run) (fit run)))

-- the total that was told
module _ (c : In_ok-total) where
  summed : c.in_ok-total.total ≡ covered (stated_rows c.args.rows.now c.args.stated)
  summed = given_inj (c.in_ok-total.ensures ∙ stated_total _ _ (omega arith) (omega arith))

pub returns-then-b-a : goal.returns-then-b-a
returns-then-b-a c = let at = (goal.at.returns-then-b-a c).Else-records-stated in no_stretch _ _ _ _ _ (few at) (fit at) (omega (arith, c.if-b-a.true))

pub returns-then-total-b : goal.returns-then-total-b
returns-then-total-b c =
    let at = (goal.at.returns-then-total-b c).Else-records-stated in
    past-total _ _ _ _ _ (few at) (fit at) (omega (arith, summed (goal.at.returns-then-total-b c).In_ok-total, c.if-total-b.true))

pub returns : goal.returns
returns c =
    let at = (goal.at.returns c).Else-records-stated in
    let a = c.args in
    let counts = stated_counts a.rows.now a.stated (λ k. omega (arith, c.type_inv.rows k)) in
    c.count_repainted.ensures
    ∙ by_rows _ _ _ _ _ (few at) (fit at) c.if-b-a.false (omega (arith, summed (goal.at.returns c).In_ok-total, c.if-total-b.false)) counts
