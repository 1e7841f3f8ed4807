use Rattle.std.proofs.Common.{◌≡◌, ◌≤◌, ◌*◌}
use Rattle.table_row_structs.proofs.Sums.{sum_to}
use Rattle.table_row_structs.proofs.covered_samples.Given as goal

abbrev pub invariant-loop-k : goal.invariant-loop-k
invariant-loop-k l = (l.sum ≡ sum_to l.rows l.k) × (l.sum ≤ l.k * 0xffffffff)
