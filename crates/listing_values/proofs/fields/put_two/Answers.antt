use native.Mathlib.Omega.{arith}
use Rattle.listing_numbers.proofs.Stores.{puts_then, number-near_64}
use Rattle.listing_values.proofs.fields.put_two.Goals as goal

pub put_number-requires : goal.put_number-requires
put_number-requires c =
    omega (arith, number-near_64 c.args.first c.put_number-next.ensures (omega arith))

pub returns : goal.returns
returns c = puts_then c.put_number-next.ensures c.put_number.ensures
