use mathlib.Core.Path.{sym}
use Rattle.base_fields.proofs.Bytes.{be_at-one}
use Rattle.base_fields.proofs.read_u8.Goals as goal

pub returns : goal.returns
returns c = (sym (be_at-one _ _), (c.shared_slice_known-1.given c.args.at).fits)
