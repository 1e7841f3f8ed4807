-- The check of the length, and then the fields.
use mathlib.Core.Path.{ap, sym, ◌∙◌}
use mir.Syntax.{w16}
use mir.Facts.{to_z-of_z}
use Rattle.base_fields.specs.Answer.{given}
use Rattle.group_entries.specs.Decoded.{decode_roll}
use Rattle.group_entries.proofs.Front.{handed, checked, enough}
use Rattle.group_entries.proofs.plain.decode_roll.Goals as goal

pub returns-in_err-check_length : goal.returns-in_err-check_length
unfolding decode_roll
returns-in_err-check_length c = rw (handed c.from_residual.ensures) (checked c.check_length.ensures _ c.in_err-check_length.was)

pub read_u16-requires : goal.read_u16-requires
read_u16-requires c = (enough c.check_length.ensures c.in_ok-check_length.was).0

pub returns : goal.returns
unfolding decode_roll
returns c =
    let distance = sym (to_z-of_z {w = w16} (record { sfits = c.signed_u16.type_inv })) in
    sym (sym (checked c.check_length.ensures _ c.in_ok-check_length.was) ∙ simp (← c.read_u16.ensures.0, ← c.signed_u16.ensures) (ap given distance))
