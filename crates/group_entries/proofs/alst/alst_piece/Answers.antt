-- The decoder's refusals first, none past the count (the laws of Front.antt); what is read lies inside by the extent that a decoded value tells.
use mathlib.Core.Path.{refl, ap, ◌∙◌}
use native.Mathlib.Omega.{arith}
use Rattle.base_fields.specs.Answer.{given}
use Rattle.group_entries.specs.Decoded.{pair_at}
use Rattle.group_entries.specs.Told.{told_alst}
use Rattle.group_entries.proofs.Front.{handed, told-at, number-refused, number-none, number-given}
use Rattle.group_entries.proofs.Extent.{AlstExtent, alst-extent}
use Rattle.group_entries.proofs.alst.alst_piece.Goals as goal
use Rattle.group_entries.proofs.alst.alst_piece.Goals.{In_ok-alst}

-- the offsets and the pairs fill the payload
extent : (c : In_ok-alst) → AlstExtent c.args.payload.now c.in_ok-alst.alst.roll_count c.in_ok-alst.alst.piece_count
extent c = alst-extent (told-at told_alst c.decode_alst.ensures c.in_ok-alst.was)

pub returns-in_err-alst : goal.returns-in_err-alst
returns-in_err-alst c = rw (handed c.from_residual.ensures) (number-refused _ _ _ (told-at told_alst c.decode_alst.ensures c.in_err-alst.was))

pub returns-then-alst-k : goal.returns-then-alst-k
returns-then-alst-k c = number-none _ _ _ (told-at told_alst c.decode_alst.ensures c.in_ok-alst.was) c.if-alst-k.true

pub read_u16-requires : goal.read_u16-requires
read_u16-requires c = let x = extent (goal.at.read_u16-requires c).In_ok-alst in omega arith

pub read_u16-requires-2 : goal.read_u16-requires-2
read_u16-requires-2 c = let x = extent (goal.at.read_u16-requires-2 c).In_ok-alst in omega arith

pub returns : goal.returns
unfolding pair_at
returns c =
    ap given (rw (c.read_u16.ensures.0, c.read_u16-2.ensures.0, (extent (goal.at.returns c).In_ok-alst).rolls) refl) ∙ number-given _ _ _ (told-at told_alst c.decode_alst.ensures c.in_ok-alst.was) c.if-alst-k.false
