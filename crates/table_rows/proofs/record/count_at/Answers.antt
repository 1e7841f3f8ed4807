use mathlib.Core.Path.{ap, sym}
use Rattle.table_rows.proofs.RowAt.{row_at}
use Rattle.table_rows.proofs.record.count_at.Goals as goal

pub returns : goal.returns
returns c = ap (λ r. r.count) (sym (row_at _ _ c.requires))
