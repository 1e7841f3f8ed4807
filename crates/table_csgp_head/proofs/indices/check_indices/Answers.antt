-- The indices that are there decide first: one of them is too large, or none and the next is cut, or all are read.
use mathlib.Core.Path.{◌≡◌, subst}
use Prim.Native.Nat.{ℕ}
use native.Mathlib.Omega.{arith}
use mathlib.Core.Bool.{Bool, false}
use Rattle.table_csgp_head.specs.Indices.{GivesLarge}
use Rattle.table_csgp_head.proofs.Reading.{indices-fit, indices-cut, indices-large}
use Rattle.table_csgp_head.proofs.indices.check_indices.Goals as goal
use Rattle.table_csgp_head.proofs.indices.check_indices.Goals.{After-has_large}

-- where it is known whether one of them is too large
module _ (c : After-has_large) where
  told : {r : Bool} → c.has_large.result ≡ r → GivesLarge c.args.s.now c.args.place c.indices_there-there.result r
  told e = subst (λ (r : Bool). GivesLarge c.args.s.now c.args.place c.indices_there-there.result r) e c.has_large.ensures

pub indices_there-there-requires : goal.indices_there-there-requires
indices_there-there-requires c = (c.requires.0, c.requires.2)

pub has_large-requires : goal.has_large-requires
has_large-requires c = (c.requires.1, c.indices_there-there.ensures.inside, c.requires.0.short)

pub returns-then-has_large : goal.returns-then-has_large
returns-then-has_large c =
    let a = c.args in
    let there = c.indices_there-there in
    indices-large a.s.now a.length there.result a.place there.ensures.few there.ensures.inside (told (goal.at.returns-then-has_large c).After-has_large c.if-has_large.true)

pub returns-then-there-length : goal.returns-then-there-length
returns-then-there-length c =
    let a = c.args in
    let there = c.indices_there-there in
    indices-cut a.s.now a.length there.result a.place c.if-there-length.true there.ensures.inside (there.ensures.cut c.if-there-length.true)
    (told (goal.at.returns-then-there-length c).After-has_large c.if-has_large.false)

pub returns : goal.returns
returns c =
    let a = c.args in
    let there = c.indices_there-there in
    let all : there.result ≡ a.length = omega (arith, there.ensures.few, c.if-there-length.false) in
    let inside = rw all at there.ensures.inside in
    let small = subst (λ (n : ℕ). GivesLarge a.s.now a.place n false) all (told (goal.at.returns c).After-has_large c.if-has_large.false) in
    record { inside = inside; read = indices-fit a.s.now a.length a.place inside small }
