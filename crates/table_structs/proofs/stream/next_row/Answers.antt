use Rattle.table_structs.proofs.Streams.{row_plain, row-joined, plain-left, joined-left}
use Rattle.table_structs.proofs.stream.next_row.Goals as goal

pub plain_row-requires : goal.plain_row-requires
plain_row-requires c =
    let told = rw c.in-Rows.is at c.requires in
    (told.0.0, told.0.1, plain-left c.args.s.now c.args.cursor.run.here told.1)

pub joined_row-requires : goal.joined_row-requires
joined_row-requires c =
    let known = c.in-Patterns.is in
    let told = rw known at c.requires in
    rw known (told.0.0, told.0.1, joined-left _ _ _ told.0.0 told.1)

pub returns-in-Rows : goal.returns-in-Rows
returns-in-Rows c =
    let known = c.in-Rows.is in
    let told = rw known at c.requires in
    rw known (row_plain _ _ _ _ told.0.1 c.plain_row.ensures)

pub returns-in-Patterns : goal.returns-in-Patterns
returns-in-Patterns c =
    let known = c.in-Patterns.is in
    let told = rw known at c.requires in
    rw known (row-joined _ _ _ _ told.0.1 (rw known at c.joined_row.ensures))
