-- The layout of the type, then what is left to compare.
use Rattle.group_entries.proofs.Front.{handed}
use Rattle.group_alike.proofs.Pairs.{first-long, second-long, by_layout, decided}
use Rattle.group_alike.proofs.likeness_of.Goals as goal

pub returns-then-a-gt-INPUT_LIMIT : goal.returns-then-a-gt-INPUT_LIMIT
returns-then-a-gt-INPUT_LIMIT c = first-long _ _ _ c.if-a-gt-INPUT_LIMIT.true

pub returns-then-b-gt-INPUT_LIMIT : goal.returns-then-b-gt-INPUT_LIMIT
returns-then-b-gt-INPUT_LIMIT c = second-long _ _ _ c.if-a-gt-INPUT_LIMIT.false c.if-b-gt-INPUT_LIMIT.true

pub same_bytes-requires : goal.same_bytes-requires
same_bytes-requires c = let d = rw c.in-Bytes.is at c.in_ok-left.ensures in (d.first, d.second)

pub returns-in-Told : goal.returns-in-Told
returns-in-Told c =
    by_layout _ _ _ c.if-a-gt-INPUT_LIMIT.false c.if-b-gt-INPUT_LIMIT.false c.layout_of.ensures (rw c.in-Told.is at c.in_ok-left.ensures)

pub returns-in_err-left : goal.returns-in_err-left
returns-in_err-left c =
    rw (handed c.from_residual.ensures) (by_layout _ _ _ c.if-a-gt-INPUT_LIMIT.false c.if-b-gt-INPUT_LIMIT.false c.layout_of.ensures c.in_err-left.ensures)

pub returns-in-Bytes : goal.returns-in-Bytes
returns-in-Bytes c =
    by_layout _ _ _ c.if-a-gt-INPUT_LIMIT.false c.if-b-gt-INPUT_LIMIT.false c.layout_of.ensures (decided _ _ _ _ (rw c.in-Bytes.is at c.in_ok-left.ensures) c.same_bytes.ensures)
