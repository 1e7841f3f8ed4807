-- The count and the index of a record are those of its struct (`Copying`).
use mathlib.Core.Path.{sym}
use Rattle.table_row_structs.proofs.Copying.{entry_at}
use Rattle.table_row_structs.proofs.record_at.Goals as goal

pub returns : goal.returns
returns c = rw (c.count_at-count.ensures, c.description_at-index.ensures) (sym (entry_at _ _))
