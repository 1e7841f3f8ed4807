-- The group by its contract, the status and `out` by `put_group`.
use Rattle.film_groups.proofs.film_file_sample_group.Goals as goal

pub returns : goal.returns
returns c = rw c.file_sample_group-group.ensures at c.put_group.ensures
