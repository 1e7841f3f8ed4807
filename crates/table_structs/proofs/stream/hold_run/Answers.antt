use Rattle.table_structs.proofs.Streams.{held-run, held_none}
use Rattle.table_structs.proofs.stream.hold_run.Goals as goal

pub returns-in-Some : goal.returns-in-Some
returns-in-Some c =
    held-run _ _ _ _ _ _ (rw c.in-Some.is at c.next_run.ensures)

pub returns-in-None : goal.returns-in-None
returns-in-None c =
    held_none _ _ _ c.requires (rw c.in-None.is at c.next_run.ensures)
