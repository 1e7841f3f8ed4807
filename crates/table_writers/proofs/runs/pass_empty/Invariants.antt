-- The invariant: as many rows remain from here as from the start.
use mathlib.Core.Path.{◌≡◌}
use Rattle.table_rows.specs.Row.{records_in}
use Rattle.table_writers.specs.Runs.{ahead}
use Rattle.table_writers.proofs.runs.pass_empty.Given as goal

abbrev pub invariant-loop-k : goal.invariant-loop-k
invariant-loop-k l = (l.records ≡ records_in l.rows) × (ahead l.rows l.from ≡ ahead l.rows l.k)
