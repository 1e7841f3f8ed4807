-- The three runs of a row one after the other: the first that is refused is the answer.
use Rattle.base_fields.proofs.Handed.{handed}
use Rattle.table_repaint.proofs.Counting.{pieces-last, pieces-stop, pieces-on}
use Rattle.table_repaint.proofs.count.enter_pieces.Goals as goal

pub returns-in_err-first : goal.returns-in_err-first
returns-in_err-first c = rw (handed c.from_residual.ensures) (pieces-stop _ _ _ _ c.in_err-first.ensures)

pub returns-in_err-second : goal.returns-in_err-second
returns-in_err-second c =
    rw (handed c.from_residual-in_err-second.ensures) (pieces-on _ _ _ _ _ c.in_ok-first.ensures (pieces-stop _ _ _ _ c.in_err-second.ensures))

pub returns : goal.returns
returns c =
    pieces-on _ _ _ _ _ c.in_ok-first.ensures (pieces-on _ _ _ _ _ c.in_ok-second.ensures (pieces-last _ _ _ c.enter_piece-3.ensures))
