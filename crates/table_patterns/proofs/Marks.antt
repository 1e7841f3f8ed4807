-- The index of a field with a mark: its highest bit goes to bit 31, and the bits behind it are the index (document 02, A7).
use mathlib.Core.Path.{◌≡◌}
use Prim.Native.Nat.{ℕ, zero, suc, ◌+◌, ◌-◌, ◌*◌, ◌/◌, ◌%◌, ◌^◌, ◌≤◌, ◌<◌}
use native.Mathlib.Nat.{pow-suc, one-mul, mod-lt, mod-eq_of_lt, div-lt_iff_lt-mul}
use native.Mathlib.Omega.{arith}
use mathlib.Core.Bool.{true}
use mathlib.Core.List.{List}
use lib.Arith.{digits_div, digits_mod}
use lib.Pow.{pow_pos, pow_mono, pow-lt}
use Rattle.base_fields.specs.Number.{field_bound, bit_at, bits_at}
use Rattle.base_fields.proofs.Bits.{bits_below, bits-highest}
use Rattle.base_ids.specs.Limits.{local_mark}
use Rattle.table_patterns.specs.Place.{index_value, index_field}

-- a field of a mark and the low bits behind it
pub marked-value : (w mark low : ℕ) → low < 2 ^ (w - 1) → index_value true w (mark * 2 ^ (w - 1) + low) ≡ mark * local_mark + low
marked-value w mark low h = rw (digits_div mark h, digits_mod mark h)

-- the mark is the bit at the index's place, whatever its width
pub marked-field : (w : ℕ) (s : List ℕ) (p : ℕ) → 1 ≤ w → index_field true w s p ≡ bit_at s p * local_mark + bits_at (w - 1) s (p + 1)
marked-field zero s p h = absurd (omega arith)
marked-field (suc w) s p h =
    let e : suc w - 1 ≡ w = omega arith in
    let bits : bits_at (suc w) s p ≡ bit_at s p * 2 ^ (suc w - 1) + bits_at (suc w - 1) s (p + 1) = rw e (bits-highest w s p) in
    rw bits (marked-value (suc w) (bit_at s p) (bits_at (suc w - 1) s (p + 1)) (bits_below (suc w - 1) s (p + 1)))

-- so a marked index is 2^31 or more, also one whose low bits are 0
pub marked-large : (w : ℕ) (s : List ℕ) (p : ℕ) → 1 ≤ w → bit_at s p ≡ 1 → local_mark ≤ index_field true w s p
marked-large w s p h e = rw (marked-field w s p h, e) (omega arith)

-- half of what fits in w bits
pub half-width : (w : ℕ) → 1 ≤ w → 2 ^ w ≡ 2 ^ (w - 1) * 2
half-width zero h = absurd (omega arith)
half-width (suc w) h = let e : suc w - 1 ≡ w = omega arith in rw (e, pow-suc)

-- the code's divisor does not wrap
pub half-divisor : (w : ℕ) → w ≤ 32 → (1 * 2 ^ (w - 1)) % field_bound ≡ 2 ^ (w - 1)
half-divisor w h = rw one-mul (mod-eq_of_lt (pow-lt {i = w - 1} {j = 32} (omega arith)))

-- and the index is a number of 32 bits
pub marked-fits : (w x : ℕ) → 1 ≤ w → w ≤ 32 → x < 2 ^ w → x / 2 ^ (w - 1) * local_mark + x % 2 ^ (w - 1) < field_bound
marked-fits w x some narrow fits =
    let half : 2 ^ (w - 1) ≤ local_mark = pow_mono {i = w - 1} {j = 31} (omega arith) in
    let mark : x / 2 ^ (w - 1) < 2 = (div-lt_iff_lt-mul (pow_pos (w - 1))).1 (let h : x < 2 * 2 ^ (w - 1) = omega (arith, half-width w some) in h) in
    omega (arith, mod-lt x (pow_pos (w - 1)))
