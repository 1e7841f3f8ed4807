-- The packed bits of a sap are equal where both parts are.
use mathlib.Core.Path.{◌≡◌, refl, sym, ◌∙◌}
use mathlib.Core.Bool.{false}
use Prim.Native.Nat.{ℕ, ◌+◌, ◌*◌, ◌/◌, ◌%◌}
use native.Mathlib.Decide.{ℕ_discrete}
use native.Mathlib.Omega.{arith}
use lib.Dec.{eqb}
use borrow.Author.Tests.{eq-eqb, ne_eqb}
use Rattle.group_alike.proofs.same_byte.Goals as goal

module _ (x y : ℕ) where
  low : x / 128 ≡ y / 128 → eqb (x % 16) (y % 16) ≡ eqb (x / 128 * 16 + x % 16) (y / 128 * 16 + y % 16)
  low h =
      elim (ℕ_discrete (x % 16) (y % 16)) [
        | yes e ↦ eq-eqb _ _ e ∙ sym (eq-eqb (x / 128 * 16 + x % 16) (y / 128 * 16 + y % 16) (omega arith))
        | no e ↦ ne_eqb _ _ e ∙ sym (ne_eqb (x / 128 * 16 + x % 16) (y / 128 * 16 + y % 16) (λ p. e (omega arith)))
      ]

  high : (x / 128 ≡ y / 128 → ⊥) → false ≡ eqb (x / 128 * 16 + x % 16) (y / 128 * 16 + y % 16)
  high h = sym (ne_eqb (x / 128 * 16 + x % 16) (y / 128 * 16 + y % 16) (λ p. h (omega arith)))

pub returns-in-Tele : goal.returns-in-Tele
returns-in-Tele c = rw c.in-Tele.is refl

pub returns-then-x-y : goal.returns-then-x-y
returns-then-x-y c = rw c.in-Sap.is (low _ _ c.if-x-y.true)

pub returns-else-x-y : goal.returns-else-x-y
returns-else-x-y c = rw c.in-Sap.is (high _ _ c.if-x-y.false)

pub returns-in-Roll : goal.returns-in-Roll
returns-in-Roll c = rw c.in-Roll.is refl

pub returns-in-Rap : goal.returns-in-Rap
returns-in-Rap c = rw c.in-Rap.is refl

pub returns-in-Rash : goal.returns-in-Rash
returns-in-Rash c = rw c.in-Rash.is refl

pub returns-in-Alst : goal.returns-in-Alst
returns-in-Alst c = rw c.in-Alst.is refl

pub returns-in-Raw : goal.returns-in-Raw
returns-in-Raw c = rw c.in-Raw.is refl
