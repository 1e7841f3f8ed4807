use native.Mathlib.Omega.{arith}
use Rattle.listing_values.proofs.Parts.{number-within}
use Rattle.listing_values.proofs.fields.put_u16.Goals as goal

pub returns : goal.returns
returns c = number-within 2 c.read_u16.ensures.0 (omega arith) c.put_number.ensures
