-- The loop's invariant: the row that covers the sample is the one that covers what is left of it in the rows not passed.
use mathlib.Core.Path.{◌≡◌}
use Prim.Native.Nat.{◌≤◌}
use lib.ListN.{drop}
use Rattle.table_rows.specs.Row.{rows_of, records_in, index_at}
use Rattle.table_rows.proofs.index_at.Given as goal

abbrev pub invariant-loop-k : goal.invariant-loop-k
invariant-loop-k l = (l.k ≤ l.k-end) × (l.k-end ≡ records_in l.rows) × (index_at (rows_of l.rows) l.sample ≡ index_at (drop l.k (rows_of l.rows)) l.left)
