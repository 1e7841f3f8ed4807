-- The invariant: the run so far in front of the rows from here on joins to the same rows as at the start.
use mathlib.Core.Path.{◌≡◌}
use Prim.Native.Nat.{◌<◌}
use mathlib.Core.List.{◌∷◌}
use lib.ListN.{drop}
use Rattle.table_rows.specs.Row.{rows_of, records_in}
use Rattle.table_rows.specs.Joined.{joined}
use Rattle.base_fields.specs.Number.{field_bound}
use Rattle.table_writers.specs.Runs.{row}
use Rattle.table_writers.proofs.runs.join.Given as goal

abbrev pub invariant-loop-k : goal.invariant-loop-k
invariant-loop-k l =
    (l.records ≡ records_in l.rows) × (0 < l.total) × (l.total < field_bound)
    × (joined (row l.count l.index ∷ drop l.from (rows_of l.rows)) ≡ joined (row l.total l.index ∷ drop l.k (rows_of l.rows)))
