-- The pairs still to come make of the output what all of them make of the first.
use mathlib.Core.Path.{◌≡◌}
use Prim.Native.Nat.{◌+◌, ◌-◌, ◌*◌, ◌≤◌}
use lib.ListN.{length}
use Rattle.table_rows.specs.Row.{rows_of, records_in}
use Rattle.table_rows.specs.Joined.{joined}
use Rattle.table_writers.specs.Runs.{ahead}
use Rattle.table_writers.specs.Halves.{PutsRuns, pairs_put}
use Rattle.table_writers.proofs.csgp.put_pairs.Given as goal

abbrev pub invariant-loop-r : goal.invariant-loop-r
invariant-loop-r l =
    (l.i ≤ records_in l.rows) × PutsRuns (ahead l.rows l.i) (1 + l.m) l.m l.h l.out × (length l.out ≡ length l.initial.out)
    × (pairs_put l.m l.h (ahead l.rows l.i) l.out ≡ pairs_put l.m l.first (joined (rows_of l.rows)) l.initial.out)
    × (l.h + (1 + l.m) * length (ahead l.rows l.i) ≡ l.first + (1 + l.m) * length (joined (rows_of l.rows)))

abbrev pub decreases-loop-r : goal.decreases-loop-r
decreases-loop-r l = records_in l.rows - l.i
