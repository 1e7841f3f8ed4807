-- The loop's invariant: what the rows before row k cover and have as members.
use mathlib.Core.Path.{◌≡◌}
use Rattle.table_rows.specs.Row.{rows_of, records_in}
use Rattle.use_fragment_queue.proofs.Counting.{Counting}
use Rattle.use_fragment_queue.proofs.row_count.count_fragment.Given as goal

abbrev pub invariant-loop-k : goal.invariant-loop-k
invariant-loop-k l = (l.k-end ≡ records_in l.rows) × Counting (rows_of l.rows) l.covered l.members l.k
