-- 32 where the count is missing, else the head.
use borrow.Author.Tests.{lt-ltb, le-ltb}
use Rattle.group_sgpd.proofs.head.count_at.Goals as goal

pub returns-then-s-at : goal.returns-then-s-at
returns-then-s-at c = simp (lt-ltb _ _ c.if-s-at.true)

pub returns : goal.returns
returns c = simp (le-ltb _ _ c.if-s-at.false, c.read_u32.ensures.0, c.read_u32-2.ensures.0)
