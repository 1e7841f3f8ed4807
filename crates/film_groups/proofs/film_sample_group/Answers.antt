-- The group by its contract, the status and `out` by `put_group`.
use Rattle.film_groups.proofs.film_sample_group.Goals as goal

pub returns : goal.returns
returns c = rw c.sample_group.ensures at c.put_group.ensures
