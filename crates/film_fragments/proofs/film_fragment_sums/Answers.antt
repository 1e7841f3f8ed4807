-- The three numbers as the queue has them.
use mathlib.Core.Path.{refl}
use Rattle.film_fragments.proofs.film_fragment_sums.Goals as goal

pub returns : goal.returns
returns c = rw c.fragment_sums-sums.ensures (record { status = refl; out = refl })
