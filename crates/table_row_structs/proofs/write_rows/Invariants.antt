use Rattle.std.proofs.Common.{◌≡◌}
use Rattle.table_row_structs.proofs.Copying.{up_to}
use Rattle.table_row_structs.proofs.write_rows.Given as goal

abbrev pub invariant-loop-i : goal.invariant-loop-i
invariant-loop-i l = l.rows ≡ up_to l.numbers l.initial.rows l.i
