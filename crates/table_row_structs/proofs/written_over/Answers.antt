use borrow.Author.Tests.{lt-ltb, le-ltb}
use Rattle.table_row_structs.proofs.written_over.Goals as goal

-- src/lib.rt:108:9
pub returns-then-records-gt-RECORD_LIMIT : goal.returns-then-records-gt-RECORD_LIMIT
returns-then-records-gt-RECORD_LIMIT c = simp (lt-ltb _ _ c.if-records-gt-RECORD_LIMIT.true)

-- src/lib.rt:111:9
pub returns-then-rows-records : goal.returns-then-rows-records
returns-then-rows-records c = simp (le-ltb _ _ c.if-records-gt-RECORD_LIMIT.false, lt-ltb _ _ c.if-rows-records.true)

-- src/lib.rt:103:1
pub returns : goal.returns
returns c = simp (le-ltb _ _ c.if-records-gt-RECORD_LIMIT.false, le-ltb _ _ c.if-rows-records.false)
