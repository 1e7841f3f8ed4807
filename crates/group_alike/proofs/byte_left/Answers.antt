-- Both fronts have one byte, of which the layout's bits are compared.
use mathlib.Core.Path.{◌≡◌, refl, sym, ◌∙◌}
use Prim.Native.Nat.{ℕ}
use native.Mathlib.Omega.{arith}
use borrow.Author.Tests.{eqb-true, eq-eqb}
use Rattle.group_alike.proofs.Fronts.{short-refused, short-front}
use Rattle.group_alike.proofs.Pairs.{first-refused, second-refused, are-told}
use Rattle.group_alike.proofs.byte_left.Goals as goal

pub returns-then-a-lt1 : goal.returns-then-a-lt1
returns-then-a-lt1 c =
    let s = c.args in
    first-refused s.layout s.a.now s.b.now (short-refused s.layout 1 c.requires s.a.now c.if-a-lt1.true)

pub returns-then-b-lt1 : goal.returns-then-b-lt1
returns-then-b-lt1 c =
    let s = c.args in
    second-refused s.layout s.a.now s.b.now (short-front s.layout 1 c.requires s.a.now c.if-a-lt1.false)
    (short-refused s.layout 1 c.requires s.b.now c.if-b-lt1.true)

pub returns : goal.returns
returns c =
    let s = c.args in
    are-told s.layout s.a.now s.b.now (short-front s.layout 1 c.requires s.a.now c.if-a-lt1.false)
    (short-front s.layout 1 c.requires s.b.now c.if-b-lt1.false) (λ k. (c.type_inv.a k).fits)
    (λ k. (c.type_inv.b k).fits) refl _
    (λ e i h. let z : i ≡ 0 = omega arith in rw z (eqb-true _ _ (sym c.same_byte.ensures ∙ e)))
    (λ e o. let p = c.same_byte.ensures ∙ eq-eqb _ _ (o 0 (omega arith)) in let z : ◌≡◌ {A = ℕ} 0 1 = cc in absurd (omega arith))
