use Rattle.table_play_head.proofs.Records.{ahead-start, ahead-next, ends-here, ends-past}
use Rattle.table_play_head.proofs.row_walk.walk_from.Goals as goal

pub loop-row-init : goal.loop-row-init
loop-row-init c = (c.record_count-records.ensures, ahead-start _ _ _)

pub returns-then-left-count : goal.returns-then-left-count
returns-then-left-count c =
    let inv = c.loop-row.invariant in
    ends-here _ _ _ _ _ inv.1 (rw inv.0 at c.loop-row-test.true) (rw c.count_at-count.ensures at c.if-left-count.true)

pub loop-row-preserved : goal.loop-row-preserved
loop-row-preserved c =
    let inv = c.loop-row.invariant in
    let e = c.count_at-count.ensures in
    (inv.0, rw e (ahead-next _ _ _ _ _ inv.1 (rw inv.0 at c.loop-row-test.true) (rw e at c.if-left-count.false)))

pub returns : goal.returns
returns c = let inv = c.loop-row.invariant in ends-past _ _ _ _ _ inv.1 (rw inv.0 at c.loop-row-test.false)
