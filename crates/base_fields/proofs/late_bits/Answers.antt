-- The field lies in the eight bytes before the end of its last one: shift and remainder cut it out of their number.
use mathlib.Core.Path.{◌≡◌, sym}
use Prim.Native.Nat.{◌+◌, ◌-◌, ◌*◌, ◌/◌}
use native.Mathlib.Nat.{mod-lt, lt_of_lt_of_le}
use native.Mathlib.Omega.{arith}
use lib.Pow.{pow_pos, pow_mono}
use Rattle.base_fields.proofs.Bits.{bits_of, divisor}
use Rattle.base_fields.proofs.late_bits.Goals as goal

pub overflow_add-behind : goal.overflow_add-behind
overflow_add-behind c = omega arith

pub overflow_add-end : goal.overflow_add-end
overflow_add-end c = omega arith

pub overflow_sub-end : goal.overflow_sub-end
overflow_sub-end c = omega arith

pub overflow_mul-shifted : goal.overflow_mul-shifted
overflow_mul-shifted c = omega arith

pub nonzero_rem-result : goal.nonzero_rem-result
nonzero_rem-result c =
    let start = c.before in
    rw (divisor start.args.width (omega arith)) (pow_pos _)

pub overflow_cast-result-2 : goal.overflow_cast-result-2
overflow_cast-result-2 c =
    let start = c.before in
    let w = start.args.width in
    rw (divisor w (omega arith)) (record { fits = lt_of_lt_of_le (mod-lt _ (pow_pos w)) (pow_mono {i = w} {j = 32} (omega arith)) })

pub returns : goal.returns
returns c =
    let start = c.before in
    let a = start.args in
    let w = a.width in
    let end = (a.at + w + 7) / 8 in
    let first = 8 * (end - 8) in
    let e : first + (a.at - first) ≡ a.at = omega arith in
    let d : 8 * 8 - (a.at - first) - w ≡ 8 * end - (a.at + w) = omega arith in
    let b = rw (e, d) at (bits_of w 8 a.s.now (end - 8) (a.at - first) (λ k. (c.shared_slice_known-1.given k).fits) (omega arith)) in
    rw (divisor w (omega arith)) (rw c.read_u64.ensures.0 (sym b), mod-lt _ (pow_pos w))
