-- The top bit of a byte is its quotient by 128.
use mathlib.Core.Path.{ap}
use Prim.Native.Nat.{ℕ, ◌%◌, ◌<◌}
use native.Mathlib.Nat.{mod-le}
use native.Mathlib.Omega.{arith}
use Rattle.listing_values.proofs.Parts.{two-within, flag-number}
use Rattle.listing_values.proofs.plain.put_flag_and_number.Goals as goal
use Rattle.listing_values.proofs.plain.put_flag_and_number.Goals.{After-read_u8-b}

number-below : (c : After-read_u8-b) → c.read_u8-b.result % c.args.low < 256
number-below c = omega (arith, mod-le c.read_u8-b.result c.args.low)

pub overflow_cast-flag : goal.overflow_cast-flag
overflow_cast-flag c = omega (arith, number-below (goal.at.overflow_cast-flag c).After-read_u8-b)

pub overflow_cast-number : goal.overflow_cast-number
overflow_cast-number c = omega (arith, number-below (goal.at.overflow_cast-number c).After-read_u8-b)

pub returns : goal.returns
returns c =
    let b = c.read_u8-b.ensures in
    let low = c.args.low in
    two-within 0 1 (flag-number b.0 b.1) (ap (λ (x : ℕ). x % low) b.0) (omega arith) (omega (arith, number-below (goal.at.returns c).After-read_u8-b)) c.put_two.ensures
