-- The field lies in the window of five bytes: `window` gives their number, and shift and remainder cut the field out of it.
use mathlib.Core.Path.{◌≡◌, sym}
use Prim.Native.Nat.{◌+◌, ◌*◌, ◌/◌, ◌%◌}
use native.Mathlib.Nat.{mod-lt, lt_of_lt_of_le}
use native.Mathlib.Omega.{arith}
use lib.Pow.{pow_pos, pow_mono}
use Rattle.base_fields.proofs.Bits.{bits_of, divisor}
use Rattle.base_fields.proofs.early_bits.Goals as goal

pub nonzero_rem-result : goal.nonzero_rem-result
nonzero_rem-result c = rw (divisor c.args.width (omega arith)) (pow_pos _)

pub overflow_cast-result-2 : goal.overflow_cast-result-2
overflow_cast-result-2 c =
    let w = c.args.width in
    rw (divisor w (omega arith)) (record { fits = lt_of_lt_of_le (mod-lt _ (pow_pos w)) (pow_mono {i = w} {j = 32} (omega arith)) })

pub returns : goal.returns
returns c =
    let a = c.args in
    let w = a.width in
    let e : 8 * (a.at / 8) + a.at % 8 ≡ a.at = omega arith in
    let b = rw e at (bits_of w 5 a.s.now (a.at / 8) (a.at % 8) (λ k. (c.shared_slice_known-1.given k).fits) (omega arith)) in
    rw (divisor w (omega arith)) (rw c.window.ensures.0 (sym b), mod-lt _ (pow_pos w))
