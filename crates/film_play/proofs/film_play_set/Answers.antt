use Rattle.film_play.proofs.Handed.{told_is}
use Rattle.film_play.proofs.film_play_set.Goals as goal

pub returns : goal.returns
returns c =
    rw (told_is c.set_by_value-t.ensures) at c.put_turn.ensures
