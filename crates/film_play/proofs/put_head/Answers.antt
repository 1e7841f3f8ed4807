use mathlib.Core.Path.{refl}
use Rattle.film_play.proofs.put_head.Goals as goal

pub returns : goal.returns
returns c = rw c.standing.ensures refl
