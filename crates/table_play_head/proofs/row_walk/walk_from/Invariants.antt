-- The loop's invariant: the walk from the first row is the one from here, of the samples that are left.
use mathlib.Core.Path.{◌≡◌}
use Prim.Native.Nat.{◌-◌}
use Rattle.table_rows.specs.Row.{rows_of, records_in}
use Rattle.table_play_head.proofs.Records.{Ahead}
use Rattle.table_play_head.proofs.row_walk.walk_from.Given as goal

abbrev pub invariant-loop-row : goal.invariant-loop-row
invariant-loop-row l = (l.records ≡ records_in l.rows) × Ahead (rows_of l.rows) l.from l.samples l.row l.left

abbrev pub decreases-loop-row : goal.decreases-loop-row
decreases-loop-row l = l.records - l.row
