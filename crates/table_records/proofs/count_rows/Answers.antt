use mathlib.Core.Path.{◌∙◌}
use Rattle.table_records.proofs.Lent.{rows-over, rows-counted, patterns-counted}
use Rattle.table_records.proofs.count_rows.Goals as goal

pub returns-then-room-count : goal.returns-then-room-count
returns-then-room-count c =
    let e = c.in-Rows.is in
    rw e (rw (rows-over _ _ _ (rw e at c.requires) c.if-room-count.true))

pub measure-requires : goal.measure-requires
measure-requires c =
    rw c.in-Patterns.is at c.requires

pub returns-else-room-count : goal.returns-else-room-count
returns-else-room-count c =
    let e = c.in-Rows.is in
    rw e (rows-counted _ _ _ (rw e at c.requires) c.if-room-count.false)

pub returns-in-Patterns : goal.returns-in-Patterns
returns-in-Patterns c =
    rw c.in-Patterns.is (c.measure.ensures ∙ patterns-counted _ _)
