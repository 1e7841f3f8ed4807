-- By the limit.
use borrow.Author.Tests.{lt-ltb, le-ltb}
use Rattle.table_sync.proofs.later.Goals as goal

pub returns-then-number-limit : goal.returns-then-number-limit
returns-then-number-limit c = simp (le-ltb _ _ c.if-number-limit.true)

pub returns-else-number-limit : goal.returns-else-number-limit
returns-else-number-limit c = simp (lt-ltb _ _ c.if-number-limit.false)
