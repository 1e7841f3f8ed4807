-- The status and the numbers of what the lookup found.
use Rattle.film_fragments.proofs.Handed.{gives-lookup}
use Rattle.film_fragments.proofs.film_fragment_lookup.Goals as goal

pub returns-in-Ok : goal.returns-in-Ok
returns-in-Ok c = gives-lookup c.fragment_lookup.ensures c.in-Ok.is

pub returns-in-Err : goal.returns-in-Err
returns-in-Err c = rw c.number.ensures (gives-lookup c.fragment_lookup.ensures c.in-Err.is)
