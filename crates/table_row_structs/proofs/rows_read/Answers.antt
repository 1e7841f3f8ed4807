use borrow.Author.Tests.{lt-ltb, le-ltb}
use Rattle.table_row_structs.proofs.rows_read.Goals as goal

-- src/lib.rt:59:9
pub returns-then-n-gt-RECORD_LIMIT : goal.returns-then-n-gt-RECORD_LIMIT
returns-then-n-gt-RECORD_LIMIT c = simp (lt-ltb _ _ c.if-n-gt-RECORD_LIMIT.true)

-- src/lib.rt:55:1
pub returns : goal.returns
returns c = simp (le-ltb _ _ c.if-n-gt-RECORD_LIMIT.false)
