use borrow.Author.Tests.{lt-leb, le-leb}
use Rattle.table_row_structs.proofs.set_told.Goals as goal

pub returns-then-n-k : goal.returns-then-n-k
returns-then-n-k c = simp (le-leb _ _ c.if-n-k.true)

pub returns : goal.returns
returns c = simp (lt-leb _ _ c.if-n-k.false)
