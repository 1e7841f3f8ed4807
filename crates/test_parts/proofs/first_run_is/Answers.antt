-- A table that was read has all of its patterns ahead of its first run.
use Rattle.test_parts.proofs.first_run_is.Goals as goal

pub next_run-requires : goal.next_run-requires
next_run-requires c =
    rw c.first_run.ensures (rw c.in-Ok.is at c.read_table.ensures).whole
