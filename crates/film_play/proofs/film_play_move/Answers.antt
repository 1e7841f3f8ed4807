use Rattle.film_play.proofs.Handed.{hands_move}
use Rattle.film_play.proofs.film_play_move.Goals as goal

pub returns : goal.returns
returns c =
    hands_move (rw c.head_in-before.ensures at c.move_by_value-t.ensures) c.put_turn.ensures
