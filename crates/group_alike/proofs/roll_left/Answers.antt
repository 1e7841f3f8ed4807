-- Both fronts have two bytes; the two are compared one after the other.
use mathlib.Core.Path.{◌≡◌, refl}
use mathlib.Core.List.{List}
use Prim.Native.Nat.{ℕ}
use native.Mathlib.Decide.{dec_lt}
use native.Mathlib.Omega.{arith}
use lib.ListN.{get_or}
use borrow.Author.Tests.{eqb-true, eq-eqb}
use Rattle.group_entries.specs.declared.EntryLayout.TheVariants.{Roll}
use Rattle.group_alike.specs.Front.{Agree}
use Rattle.group_alike.proofs.Fronts.{short-refused, short-front}
use Rattle.group_alike.proofs.Pairs.{first-refused, second-refused, are-different, are-told}
use Rattle.group_alike.proofs.roll_left.Goals as goal

both : (a b : List ℕ) → get_or a 0 0 ≡ get_or b 0 0 → get_or a 1 0 ≡ get_or b 1 0 → Agree Roll a b 2
both a b p q i h =
    elim (dec_lt i 1) [
      | yes l ↦ let z : i ≡ 0 = omega arith in rw z p
      | no l ↦ let z : i ≡ 1 = omega arith in rw z q
    ]

pub returns-then-a-lt2 : goal.returns-then-a-lt2
returns-then-a-lt2 c = first-refused Roll _ _ (short-refused Roll 2 refl _ c.if-a-lt2.true)

pub returns-then-b-lt2 : goal.returns-then-b-lt2
returns-then-b-lt2 c = second-refused Roll _ _ (short-front Roll 2 refl _ c.if-a-lt2.false) (short-refused Roll 2 refl _ c.if-b-lt2.true)

pub returns-then-a-b : goal.returns-then-a-b
returns-then-a-b c =
    are-different Roll _ _ (short-front Roll 2 refl _ c.if-a-lt2.false) (short-front Roll 2 refl _ c.if-b-lt2.false)
    (λ k. (c.type_inv.a k).fits) (λ k. (c.type_inv.b k).fits) (λ e o. c.if-a-b.true (o 0 (omega arith)))

pub returns : goal.returns
returns c =
    are-told Roll _ _ (short-front Roll 2 refl _ c.if-a-lt2.false) (short-front Roll 2 refl _ c.if-b-lt2.false)
    (λ k. (c.type_inv.a k).fits) (λ k. (c.type_inv.b k).fits) refl _
    (λ e. both c.args.a.now c.args.b.now c.if-a-b.false (eqb-true _ _ e))
    (λ e o. let p = eq-eqb _ _ (o 1 (omega arith)) in let z : ◌≡◌ {A = ℕ} 0 1 = cc in absurd (omega arith))
