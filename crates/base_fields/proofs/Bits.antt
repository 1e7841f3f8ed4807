-- A field of bits is a digit of the big-endian number around it: laws over the field's place and width.
use mathlib.Core.Path.{◌≡◌, refl, ap, sym, ◌∙◌}
use Prim.Native.Nat.{ℕ, zero, suc, ◌+◌, ◌-◌, ◌*◌, ◌/◌, ◌%◌, ◌^◌, ◌<◌, ◌≤◌}
use native.Mathlib.Nat.{add-zero, add_assoc, mul_assoc, pow-suc, mul-add-div_right, mod-one, div-one, one-mul, mod-eq_of_lt}
use native.Mathlib.Decide.{dec_lt}
use native.Mathlib.Numerals.{add-one}
use native.Mathlib.Omega.{arith}
use mathlib.Core.List.{List}
use lib.ListN.{get_or}
use lib.Pow.{pow-add, pow_pos, pow-lt, shr-shr, mod-pow-add}
use Rattle.base_fields.specs.Number.{be_at, bit_at, bits_at}

abbrev pub Bytes : List ℕ → Type 0
Bytes s = (k : ℕ) → get_or s k 0 < 256

-- a bit of the lowest byte
low_bit : (v x k : ℕ) → k ≤ 7 → (v * 256 + x) / 2 ^ k % 2 ≡ x / 2 ^ k % 2
low_bit v x k h =
    let d : 8 - k + k ≡ 8 = omega arith in
    let e : 2 ^ (8 - k) * 2 ^ k ≡ 256 = sym (pow-add 2 (8 - k) k) ∙ rw d refl in
    let u : 8 - k ≡ suc (7 - k) = omega arith in
    let f : 2 ^ (8 - k) ≡ 2 ^ (7 - k) * 2 = rw u (pow-suc 2 (7 - k)) in
    let g : v * 256 ≡ v * 2 ^ (8 - k) * 2 ^ k = ap (λ (n : ℕ). v * n) (sym e) ∙ sym (mul_assoc v (2 ^ (8 - k)) (2 ^ k)) in
    let m : v * 2 ^ (8 - k) ≡ v * 2 ^ (7 - k) * 2 = ap (λ (n : ℕ). v * n) f ∙ sym (mul_assoc v (2 ^ (7 - k)) 2) in
    rw (g, mul-add-div_right (pow_pos k) (v * 2 ^ (8 - k)) x, m) (omega arith)

-- bit i of the number in n bytes
pub bit-of : (n : ℕ) (s : List ℕ) (b i : ℕ) → Bytes s → i < 8 * n → be_at n s b / 2 ^ (8 * n - 1 - i) % 2 ≡ bit_at s (8 * b + i)
unfolding be_at bit_at
bit-of zero s b i bytes h = absurd (omega arith)
bit-of (suc n) s b i bytes h =
    let v = be_at n s b in
    let x = get_or s (b + n) 0 in
    elim (dec_lt i (8 * n)) [
      | yes l ↦
          let e : 8 * suc n - 1 - i ≡ 8 + (8 * n - 1 - i) = omega arith in
          let q : (v * 256 + x) / 2 ^ 8 ≡ v = omega (arith, bytes (b + n)) in
          rw (e, ← shr-shr (v * 256 + x) 8 (8 * n - 1 - i), q) (bit-of n s b i bytes l)
      | no l ↦
          let e : 8 * suc n - 1 - i ≡ 7 - (8 * b + i) % 8 = omega arith in
          let d : (8 * b + i) / 8 ≡ b + n = omega arith in
          rw (e, d) (low_bit v x (7 - (8 * b + i) % 8) (omega arith))
    ]

-- one bit more, of m bits: the shift of the others, and that of the bit itself
others_shift : (m o w : ℕ) → o + suc w ≤ m → m - o - w ≡ m - o - suc w + 1
others_shift m o w h = omega arith

bit_shift : (m o w : ℕ) → o + suc w ≤ m → m - 1 - (o + w) ≡ m - o - suc w
bit_shift m o w h = omega arith

-- the w bits from bit o of the number in n bytes
pub bits_of : (w n : ℕ) (s : List ℕ) (b o : ℕ) → Bytes s → o + w ≤ 8 * n → bits_at w s (8 * b + o) ≡ be_at n s b / 2 ^ (8 * n - o - w) % 2 ^ w
unfolding bits_at
bits_of zero n s b o bytes h = sym (mod-one _)
bits_of (suc w) n s b o bytes h =
    let k = 8 * n - o - suc w in
    let y = be_at n s b / 2 ^ k in
    let e : 8 * n - o - w ≡ k + 1 = others_shift (8 * n) o w h in
    let f : 8 * n - 1 - (o + w) ≡ k = bit_shift (8 * n) o w h in
    let i : bits_at w s (8 * b + o) ≡ y / 2 ^ 1 % 2 ^ w =
    bits_of w n s b o bytes (omega arith) ∙ rw e (rw (← shr-shr (be_at n s b) k 1) refl) in
    let j : bit_at s (8 * b + o + w) ≡ y % 2 = rw (add_assoc (8 * b) o w) (sym (bit-of n s b (o + w) bytes (omega arith)) ∙ rw f refl) in
    rw (i, j) (sym (mod-pow-add y w 1) ∙ ap (λ (m : ℕ). y % 2 ^ m) (add-one w))

-- a number of w bits is below 2 to the w
pub bits_below : (w : ℕ) (s : List ℕ) (p : ℕ) → bits_at w s p < 2 ^ w
unfolding bits_at bit_at
bits_below zero s p = omega arith
bits_below (suc w) s p = rw pow-suc (omega (arith, bits_below w s p))

-- its highest bit is the one at its place, and the others are the number behind that bit
pub bits-highest : (w : ℕ) (s : List ℕ) (p : ℕ) → bits_at (suc w) s p ≡ bit_at s p * 2 ^ w + bits_at w s (p + 1)
unfolding bits_at
bits-highest zero s p = rw add-zero (omega arith)
bits-highest (suc w) s p =
    let e : p + suc w ≡ p + 1 + w = omega arith in
    rw (bits-highest w s p, e, pow-suc 2 w, ← mul_assoc (bit_at s p) (2 ^ w) 2) (omega arith)

-- a divisor of the code is a power of 2 that does not wrap
pub divisor : (w : ℕ) → w ≤ 32 → (1 * 2 ^ w) % 18446744073709551616 ≡ 2 ^ w
divisor w h = rw one-mul (mod-eq_of_lt (pow-lt {i = w} {j = 64} (omega arith)))

-- a number of w bytes is below 256 to the w
pub be_at-below : (w : ℕ) (s : List ℕ) (p : ℕ) → Bytes s → be_at w s p < 256 ^ w
unfolding be_at
be_at-below zero s p bytes = omega arith
be_at-below (suc w) s p bytes = rw pow-suc (omega (arith, be_at-below w s p bytes, bytes (p + w)))

bits_in : (w : ℕ) → 2 ^ (8 * w) ≡ 256 ^ w
bits_in zero = refl
bits_in (suc w) =
    let e : 8 * suc w ≡ 8 * w + 8 = omega arith in
    rw (e, pow-add 2 (8 * w) 8, bits_in w, pow-suc 256 w) refl

-- the bytes from place p and the bits from bit place 8 p are one number
pub bytes_as_bits : (w : ℕ) (s : List ℕ) (p : ℕ) → Bytes s → bits_at (8 * w) s (8 * p) ≡ be_at w s p
bytes_as_bits w s p bytes =
    let e : 8 * w - 0 - 8 * w ≡ 0 = omega arith in
    let small : be_at w s p < 2 ^ (8 * w) = rw bits_in (be_at-below w s p bytes) in
    let b = rw (add-zero (8 * p), e) at (bits_of (8 * w) w s p 0 bytes (omega arith)) in
    b ∙ rw (div-one (be_at w s p)) (mod-eq_of_lt small)
