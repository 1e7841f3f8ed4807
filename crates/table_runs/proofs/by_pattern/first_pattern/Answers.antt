use mathlib.Core.Path.{refl}
use Rattle.table_runs.proofs.by_pattern.first_pattern.Goals as goal

pub returns-in-Rows : goal.returns-in-Rows
returns-in-Rows c = rw c.in-Rows.is refl

pub returns-in-Patterns : goal.returns-in-Patterns
returns-in-Patterns c = rw c.in-Patterns.is c.first_pattern.ensures
