use mathlib.Core.Path.{refl}
use Rattle.table_runs.proofs.by_pattern.row_at.Goals as goal

pub returns : goal.returns
returns c = rw c.read_u32.ensures.0 refl
