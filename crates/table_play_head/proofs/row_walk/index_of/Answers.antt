use mathlib.Core.Path.{sym, ◌∙◌}
use Rattle.table_play_head.proofs.Records.{index_at, index-none}
use Rattle.table_play_head.proofs.row_walk.index_of.Goals as goal

pub returns-then-row-record_count : goal.returns-then-row-record_count
returns-then-row-record_count c = c.description_at.ensures ∙ sym (index_at _ _ (rw c.record_count.ensures at c.if-row-record_count.true))

pub returns : goal.returns
returns c = sym (index-none _ _ (rw c.record_count.ensures at c.if-row-record_count.false))
