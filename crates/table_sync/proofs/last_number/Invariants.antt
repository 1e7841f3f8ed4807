-- The loop's invariant: what the numbers so far tell of all of them.
use Rattle.table_sync.proofs.Cases.{Passed}
use Rattle.table_sync.specs.Sync.{numbers_in}
use Prim.Native.Nat.{◌-◌, ◌≤◌}
use Rattle.table_sync.proofs.last_number.Given as goal

abbrev pub invariant-loop-k : goal.invariant-loop-k
invariant-loop-k l = (1 ≤ l.least) × Passed l.limit (numbers_in l.s) l.k (l.least - 1) l.found
