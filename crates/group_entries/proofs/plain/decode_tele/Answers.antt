-- The check of the length, and then the fields.
use Rattle.group_entries.specs.Decoded.{decode_tele}
use Rattle.group_entries.proofs.Front.{handed, checked, enough}
use Rattle.group_entries.proofs.plain.decode_tele.Goals as goal

pub returns-in_err-check_length : goal.returns-in_err-check_length
unfolding decode_tele
returns-in_err-check_length c = rw (handed c.from_residual.ensures) (checked c.check_length.ensures _ c.in_err-check_length.was)

pub read_u8-b-requires : goal.read_u8-b-requires
read_u8-b-requires c = (enough c.check_length.ensures c.in_ok-check_length.was).0

pub returns : goal.returns
unfolding decode_tele
returns c = rw c.read_u8-b.ensures.0 (checked c.check_length.ensures _ c.in_ok-check_length.was)
