-- What a decided question tells as a flag.
use mathlib.Core.Path.{◌≡◌, refl}
use mathlib.Core.Bool.{true, false}
use Prim.Native.Nat.{ℕ}
use native.Mathlib.Omega.{arith}
use Rattle.group_entries.specs.Same.{is_same}

module _ {P : Type 0} where
  pub told-true : (d : Dec P) → P → is_same d ≡ true
  told-true (yes p) h = refl
  told-true (no p) h = absurd (p h)

  pub told-false : (d : Dec P) → (P → ⊥) → is_same d ≡ false
  told-false (yes p) h = absurd (h p)
  told-false (no p) h = refl

  pub true-told : (d : Dec P) → is_same d ≡ true → P
  true-told (yes p) e = p
  true-told (no p) e = let z : ◌≡◌ {A = ℕ} 0 1 = cc in absurd (omega arith)

  pub false-told : (d : Dec P) → is_same d ≡ false → P → ⊥
  false-told (yes p) e = let z : ◌≡◌ {A = ℕ} 0 1 = cc in absurd (omega arith)
  false-told (no p) e = p
