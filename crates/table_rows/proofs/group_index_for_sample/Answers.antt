use borrow.Author.Tests.{lt-ltb, le-ltb}
use Rattle.table_rows.proofs.group_index_for_sample.Goals as goal

pub returns-then-record_count-gt-RECORD_LIMIT : goal.returns-then-record_count-gt-RECORD_LIMIT
returns-then-record_count-gt-RECORD_LIMIT c = simp (lt-ltb _ _ (rw c.record_count.ensures at c.if-record_count-gt-RECORD_LIMIT.true))

pub returns : goal.returns
returns c = simp (c.index_at.ensures, le-ltb _ _ (rw c.record_count.ensures at c.if-record_count-gt-RECORD_LIMIT.false))
