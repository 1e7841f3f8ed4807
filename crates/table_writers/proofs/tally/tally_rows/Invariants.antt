-- The rows counted so far and those to come are all that remain (`Tallying`).
use Prim.Native.Nat.{◌-◌, ◌≤◌}
use Rattle.table_rows.specs.Row.{rows_of, records_in}
use Rattle.table_rows.specs.Joined.{joined}
use Rattle.table_writers.specs.Runs.{ahead}
use Rattle.table_writers.proofs.Tallying.{Tallying}
use Rattle.table_writers.proofs.tally.tally_rows.Given as goal

abbrev pub invariant-loop-r : goal.invariant-loop-r
invariant-loop-r l = (l.i ≤ records_in l.rows) × Tallying (joined (rows_of l.rows)) (ahead l.rows l.i) l.t

abbrev pub decreases-loop-r : goal.decreases-loop-r
decreases-loop-r l = records_in l.rows - l.i
