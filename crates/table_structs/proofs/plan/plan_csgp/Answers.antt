use mathlib.Core.Path.{refl, sym}
use Rattle.base_fields.proofs.Answers.{given_inj, given-first}
use Rattle.table_csgp.proofs.Parse.{parse_rows, refused-rows}
use Rattle.table_csgp_head.specs.Head.{CsgpLaid}
use Rattle.table_structs.proofs.Plans.{plan-refused, plan-patterns}
use Rattle.table_structs.proofs.plan.plan_csgp.Goals as goal
use Rattle.table_structs.proofs.plan.plan_csgp.Goals.{In-Ok}

-- the head that was read
laid : (c : In-Ok) → CsgpLaid c.args.s.now c.in-Ok.head
laid c = rw c.in-Ok.is at c.read_csgp.ensures

pub measure-requires : goal.measure-requires
measure-requires c = laid c

pub first_row-requires : goal.first_row-requires
first_row-requires c = let l = laid (goal.at.first_row-requires c).In-Ok in (l.fixed, l.whole)

pub returns-in-Ok-measure : goal.returns-in-Ok-measure
returns-in-Ok-measure c =
    let o = given-first _ _ (sym (rw c.in-Ok-measure.is at c.measure.ensures)) in
    plan-patterns _ _ _ (laid (goal.at.returns-in-Ok-measure c).In-Ok) _ c.first_row.ensures _ o.0 o.1 (sym (given_inj o.2))

pub returns-in-Err-measure : goal.returns-in-Err-measure
returns-in-Err-measure c =
    let told = rw c.in-Err-measure.is at c.measure.ensures in
    plan-refused _ _ _ _ _ (rw (parse_rows _ _, refused-rows _ _ _ told) refl) c.no_rows.ensures

pub returns-in-Err : goal.returns-in-Err
returns-in-Err c =
    let told = rw c.in-Err.is at c.read_csgp.ensures in
    plan-refused _ _ _ _ _ (rw told refl) c.no_rows-in-Err.ensures
