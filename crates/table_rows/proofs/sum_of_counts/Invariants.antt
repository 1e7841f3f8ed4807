-- The loop's invariant, of what the rows from one on cover: the sum so far and that from k and from half + k are that from 0 and from half; two counts add less than 2^33.
use mathlib.Core.Path.{◌≡◌}
use mathlib.Core.List.{List}
use Prim.Native.Nat.{ℕ, ◌+◌, ◌*◌, ◌≤◌}
use lib.ListN.{drop}
use Rattle.table_rows.specs.Row.{rows_of, records_in, covered}
use Rattle.table_rows.proofs.sum_of_counts.Given as goal

-- the samples from row i on
abbrev pub covered_from : List ℕ → ℕ → ℕ
covered_from l i = covered (drop i (rows_of l))

abbrev pub invariant-loop-k : goal.invariant-loop-k
invariant-loop-k l =
    (l.k ≤ l.half) × (l.records ≡ records_in l.rows) × (l.sum ≤ 8589934592 * l.k) × (l.sum + covered_from l.rows l.k + covered_from l.rows (l.half + l.k) ≡ covered (rows_of l.rows) + covered_from l.rows l.half)
