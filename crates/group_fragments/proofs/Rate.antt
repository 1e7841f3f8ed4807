-- The rate of a point is the one number that lies nearest to the fraction, where an exact half goes to the even one (document 02, A2).
use mathlib.Core.Path.{◌≡◌, refl}
use mathlib.Core.Logic.{◌⊎◌, inl, inr, ⊎_elim}
use mathlib.Core.Bool.{Bool, true, false}
use Prim.Native.Nat.{ℕ, ◌+◌, ◌*◌, ◌/◌, ◌%◌, ◌≤◌, ◌<◌}
use native.Mathlib.Nat.{div-add-mod', mod-lt}
use native.Mathlib.Omega.{arith}
use lib.Dec.{ltb}
use borrow.Author.Tests.{ltb-true, ltb-false}
use Rattle.base_fields.specs.Answer.{choose}
use Rattle.group_fragments.specs.Fragments.{rate_of}

-- r is at most half away from x over 100; at exactly half it is even
pub record Nearest (x r : ℕ) : Type 0 where
  pub low : x ≤ 100 * r + 50
  pub high : 100 * r ≤ x + 50
  pub even : (x ≡ 100 * r + 50) ⊎ (100 * r ≡ x + 50) → r % 2 ≡ 0

-- by the quotient and the remainder
rounded : (x q r : ℕ) → q * 100 + r ≡ x → r < 100 → (under over : Bool) → ltb r 50 ≡ under → ltb 50 r ≡ over
    → Nearest x (q + choose under 0 (choose over 1 (q % 2)))
rounded x q r e l true over f g =
    let h : r < 50 = ltb-true r 50 f in
    record {
      low = omega arith;
      high = omega arith;
      even = λ half. absurd (⊎_elim {C = ⊥} (λ k. omega arith) (λ k. omega arith) half);
    }
rounded x q r e l false true f g =
    let h : 50 < r = ltb-true 50 r g in
    record {
      low = omega arith;
      high = omega arith;
      even = λ half. absurd (⊎_elim {C = ⊥} (λ k. omega arith) (λ k. omega arith) half);
    }
rounded x q r e l false false f g =
    let h : 50 ≤ r = ltb-false r 50 f in
    let k : r ≤ 50 = ltb-false 50 r g in
    record { low = omega arith; high = omega arith; even = λ half. omega arith }

pub rate_nearest : (bitrate share : ℕ) → Nearest (bitrate * share) (rate_of bitrate share)
unfolding rate_of
rate_nearest bitrate share =
    let x = bitrate * share in
    rounded x (x / 100) (x % 100) (div-add-mod' x 100) (mod-lt x (omega arith)) (ltb (x % 100) 50) (ltb 50 (x % 100)) refl refl

-- neighbours are not both even
neighbours : (a b : ℕ) → b * 2 ≡ a * 2 + 1 → ⊥
neighbours a b e = by (ltb a b) refl
  where
    by : (above : Bool) → ltb a b ≡ above → ⊥
    by true f = omega (arith, ltb-true a b f)
    by false f = omega (arith, ltb-false a b f)

-- of two such numbers neither is below the other: at a half the lower is even, and the upper is too
not-below : {x r q : ℕ} → Nearest x r → Nearest x q → r < q → ⊥
not-below {x} {r} {q} a b l =
    let low : x ≤ 100 * r + 50 = a.low in
    let high : 100 * q ≤ x + 50 = b.high in
    let one : r % 2 ≡ 0 = a.even (inl (omega arith)) in
    let other : q % 2 ≡ 0 = b.even (inr (omega arith)) in
    neighbours (r / 2) (q / 2) (omega (arith, div-add-mod' r 2, div-add-mod' q 2))

-- so the two facts determine the rate
pub nearest_one : {x r q : ℕ} → Nearest x r → Nearest x q → r ≡ q
nearest_one {x} {r} {q} a b = by (ltb r q) (ltb q r) refl refl
  where
    by : (under over : Bool) → ltb r q ≡ under → ltb q r ≡ over → r ≡ q
    by true over e f = absurd (not-below a b (ltb-true r q e))
    by false true e f = absurd (not-below b a (ltb-true q r f))
    by false false e f = omega (arith, ltb-false r q e, ltb-false q r f)
