use Rattle.film_play.proofs.Handed.{hands_index}
use Rattle.film_play.proofs.put_turn.Goals as goal

pub returns-in-Ok : goal.returns-in-Ok
returns-in-Ok c = hands_index _ c.in-Ok.is c.put_head.ensures
