-- The decoder's refusals first, none past the count (the laws of Front.antt); what is read lies inside by the extent that a decoded value tells.
use mathlib.Core.Path.{ap, ◌∙◌}
use native.Mathlib.Omega.{arith}
use Rattle.base_fields.specs.Answer.{given}
use Rattle.group_entries.specs.Decoded.{offset_at}
use Rattle.group_entries.specs.Told.{told_alst}
use Rattle.group_entries.proofs.Front.{handed, told-at, number-refused, number-none, number-given}
use Rattle.group_entries.proofs.Extent.{AlstExtent, alst-extent}
use Rattle.group_entries.proofs.alst.alst_sample_offset.Goals as goal
use Rattle.group_entries.proofs.alst.alst_sample_offset.Goals.{In_ok-roll_count}

-- the offsets and the pairs fill the payload
extent : (c : In_ok-roll_count) → let a = c.in_ok-roll_count.field-0 in AlstExtent c.args.payload.now a.roll_count a.piece_count
extent c = alst-extent (told-at told_alst c.decode_alst.ensures c.in_ok-roll_count.was)

pub returns-in_err-roll_count : goal.returns-in_err-roll_count
returns-in_err-roll_count c = rw (handed c.from_residual.ensures) (number-refused _ _ _ (told-at told_alst c.decode_alst.ensures c.in_err-roll_count.was))

pub returns-then-roll_count-k : goal.returns-then-roll_count-k
returns-then-roll_count-k c = number-none _ _ _ (told-at told_alst c.decode_alst.ensures c.in_ok-roll_count.was) c.if-roll_count-k.true

pub read_u32-requires : goal.read_u32-requires
read_u32-requires c = let x = extent (goal.at.read_u32-requires c).In_ok-roll_count in omega arith

pub returns : goal.returns
unfolding offset_at
returns c =
    ap given c.read_u32.ensures.0 ∙ number-given _ _ _ (told-at told_alst c.decode_alst.ensures c.in_ok-roll_count.was) c.if-roll_count-k.false
