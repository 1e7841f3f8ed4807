use mathlib.Core.Path.{refl}
use Rattle.table_sbgp.specs.Head.{SbgpLaid}
use Rattle.table_structs.proofs.Plans.{plan-refused, sbgp_no_room, plan-rows}
use Rattle.table_structs.proofs.plan.plan_sbgp.Goals as goal
use Rattle.table_structs.proofs.plan.plan_sbgp.Goals.{In-Ok}

-- the head that was read
laid : (c : In-Ok) → SbgpLaid c.args.s.now c.in-Ok.head
laid c = rw c.in-Ok.is at c.read_sbgp.ensures

pub returns-then-room-count : goal.returns-then-room-count
returns-then-room-count c = plan-refused _ _ _ _ _ (sbgp_no_room _ _ _ (laid (goal.at.returns-then-room-count c).In-Ok) c.if-room-count.true) c.no_rows.ensures

pub first_row-requires : goal.first_row-requires
first_row-requires c = let l = laid (goal.at.first_row-requires c).In-Ok in (l.inside, l.short)

pub returns-else-room-count : goal.returns-else-room-count
returns-else-room-count c = plan-rows _ _ _ (laid (goal.at.returns-else-room-count c).In-Ok) _ c.if-room-count.false c.first_row.ensures

pub returns-in-Err : goal.returns-in-Err
returns-in-Err c =
    let told = rw c.in-Err.is at c.read_sbgp.ensures in
    plan-refused _ _ _ _ _ (rw told refl) c.no_rows-in-Err.ensures
