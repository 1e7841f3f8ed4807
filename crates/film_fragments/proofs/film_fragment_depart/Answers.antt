-- The status of what the queue's call told.
use Rattle.film_fragments.proofs.Handed.{gives-call}
use Rattle.film_fragments.proofs.film_fragment_depart.Goals as goal

pub returns-in-Ok : goal.returns-in-Ok
returns-in-Ok c = gives-call c.fragment_depart.ensures c.in-Ok.is

pub returns-in-Err : goal.returns-in-Err
returns-in-Err c = rw c.number.ensures (gives-call c.fragment_depart.ensures c.in-Err.is)
