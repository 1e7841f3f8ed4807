use mathlib.Core.Path.{refl}
use Rattle.table_runs.proofs.by_run.first_run.Goals as goal

pub returns : goal.returns
returns c = rw c.first_pattern.ensures refl
