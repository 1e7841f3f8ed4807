-- Two entries that agree over bytes, and numbers of them: laws over the place and the width (for the highest byte first, base_fields' Agree).
use mathlib.Core.Path.{◌≡◌, refl}
use Prim.Native.Nat.{ℕ, zero, suc, ◌+◌, ◌<◌, ◌≤◌}
use native.Mathlib.Decide.{dec_lt}
use native.Mathlib.Omega.{arith}
use mathlib.Core.List.{List}
use Rattle.base_fields.specs.Number.{be_at}
use Rattle.base_fields.proofs.Bits.{Bytes}
use Rattle.base_fields.proofs.Bytes.{be_at-one}
use Rattle.group_entries.specs.Decoded.{up_to}
use Rattle.group_alike.specs.Front.{Over, low_first}

-- the same before a place and from it on
pub over-join : (a b : List ℕ) (p v w : ℕ) → Over a b p v → Over a b (p + v) w → Over a b p (v + w)
over-join a b p v w o u i h l =
    elim (dec_lt i (p + v)) [
      | yes m ↦ o i h m
      | no m ↦ u i (omega arith) (omega arith)
    ]

-- the numbers of fields with the lowest byte first are equal exactly where their bytes are
pub over-of-low : (w : ℕ) (a b : List ℕ) (p k : ℕ) → Bytes a → Bytes b → low_first w a p k ≡ low_first w b p k → Over a b (p + k) w
unfolding low_first
over-of-low zero a b p k ba bb e i h l = absurd (omega arith)
over-of-low (suc w) a b p k ba bb e i h l =
    let below-a = rw (← be_at-one a (p + k)) at (ba (p + k)) in
    let below-b = rw (← be_at-one b (p + k)) at (bb (p + k)) in
    let low : be_at 1 a (p + k) ≡ be_at 1 b (p + k) = omega (arith, below-a, below-b) in
    let high : low_first w a p (suc k) ≡ low_first w b p (suc k) = omega (arith, below-a, below-b) in
    elim (dec_lt (p + k) i) [
      | yes m ↦ over-of-low w a b p (suc k) ba bb high i (omega arith) (omega arith)
      | no m ↦ let q : i ≡ p + k = omega arith in rw (q, ← be_at-one a (p + k), ← be_at-one b (p + k)) low
    ]

pub low-of-over : (w : ℕ) (a b : List ℕ) (p k : ℕ) → Over a b (p + k) w → low_first w a p k ≡ low_first w b p k
unfolding low_first
low-of-over zero a b p k o = refl
low-of-over (suc w) a b p k o =
    let low : be_at 1 a (p + k) ≡ be_at 1 b (p + k) = rw (be_at-one a (p + k), be_at-one b (p + k)) (o (p + k) (omega arith) (omega arith)) in
    let high = low-of-over w a b p (suc k) (λ i h l. o i (omega arith) (omega arith)) in
    rw (low, high) refl

-- f and g agree at k, .., k + n - 1 exactly where their lists are equal
module _ {A : Type 0} (f g : ℕ → A) where
  pub each-of-up_to : (k n : ℕ) → up_to f k n ≡ up_to g k n → (j : ℕ) → k ≤ j → j < k + n → f j ≡ g j
  unfolding up_to
  each-of-up_to k zero e j h l = absurd (omega arith)
  each-of-up_to k (suc n) e j h l =
      let first : f k ≡ g k = cc in
      let rest : up_to f (suc k) n ≡ up_to g (suc k) n = cc in
      elim (dec_lt k j) [
        | yes m ↦ each-of-up_to (suc k) n rest j (omega arith) (omega arith)
        | no m ↦ let q : j ≡ k = omega arith in rw q first
      ]

  pub up_to-of-each : (k n : ℕ) → ((j : ℕ) → k ≤ j → j < k + n → f j ≡ g j) → up_to f k n ≡ up_to g k n
  unfolding up_to
  up_to-of-each k zero o = refl
  up_to-of-each k (suc n) o =
      let first = o k (omega arith) (omega arith) in
      let rest = up_to-of-each (suc k) n (λ j h l. o j (omega arith) (omega arith)) in
      cc
