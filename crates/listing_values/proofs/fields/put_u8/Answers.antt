use native.Mathlib.Omega.{arith}
use Rattle.listing_values.proofs.Parts.{number-within}
use Rattle.listing_values.proofs.fields.put_u8.Goals as goal

pub returns : goal.returns
returns c = number-within 1 c.read_u8.ensures.0 (omega arith) c.put_number.ensures
