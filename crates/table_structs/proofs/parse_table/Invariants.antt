use Rattle.std.proofs.Common.{◌≡◌, ◌≤◌, length}
use Rattle.table_structs.specs.Table.{parsed_table}
use Rattle.table_structs.proofs.Filling.{rows_written, BehindRows}
use Rattle.table_structs.proofs.parse_table.Given as goal

-- after k turns the first k rows are the first k of the plan's, and the cursor is behind them
abbrev pub invariant-loop-k : goal.invariant-loop-k
invariant-loop-k l =
    let told = parsed_table l.fn.kind l.s (length l.initial.rows) in
    (l.k ≤ l.k-end) × (l.k-end ≡ l.plan.count) × BehindRows told l.s l.plan l.k l.cursor × (l.rows ≡ rows_written told l.initial.rows l.k)
