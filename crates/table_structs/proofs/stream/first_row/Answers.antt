use Rattle.table_structs.proofs.stream.first_row.Goals as goal

pub hold_run-requires : goal.hold_run-requires
hold_run-requires c =
    rw c.first_run-at.ensures c.requires

pub returns-in-Rows : goal.returns-in-Rows
returns-in-Rows c = rw c.in-Rows.is (rw c.in-Rows.is at c.first_run-at.ensures)

pub returns-in-Patterns : goal.returns-in-Patterns
returns-in-Patterns c =
    let known = c.in-Patterns.is in
    let first = c.first_run-at.ensures in
    rw known (rw (first, known) at c.hold_run.ensures)
