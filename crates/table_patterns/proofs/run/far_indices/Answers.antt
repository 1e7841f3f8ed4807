use mathlib.Core.Path.{refl}
use Prim.Native.Nat.{◌+◌, ◌-◌, ◌*◌, ◌/◌, ◌≤◌}
use native.Mathlib.Omega.{arith}
use Rattle.table_patterns.specs.Place.{field_number}
use Rattle.table_patterns.specs.Run.{AlikeIndices, alike}
use Rattle.table_patterns.proofs.Words.{near-inside, far-run}
use Rattle.table_patterns.proofs.run.far_indices.Goals as goal
use Rattle.table_patterns.proofs.run.far_indices.Goals.{After-equal_words-words, Else-width-ne0}

near : (c : Else-width-ne0) → (let a = c.args in a.width * a.from + a.width * 18 ≤ a.width * a.end)
near c = let a = c.args in near-inside a.width a.from a.end c.requires.4.within

abbrev Far : After-equal_words-words → Type 0
Far c =
    let a = c.args in
    let first = a.place + a.width * a.from in
    (first ≤ 8 * c.equal_words-words.result) × AlikeIndices (field_number a.width a.s.now a.place) a.from a.end (alike ((8 * c.equal_words-words.result - first) / a.width) a.index)

far : (c : After-equal_words-words) → Far c
far c =
    let a = c.args in
    far-run a.s.now a.width a.place a.from a.end _ _ _ (λ k. (c.type_inv.s k).fits) (omega (arith, c.if-width-lt4.false)) c.if-width-ne0.false
    c.requires.4 c.equal_words-words.ensures refl

pub equal_words-words-requires : goal.equal_words-words-requires
equal_words-words-requires c = (omega (arith, c.requires.1, c.if-width-lt4.false), omega (arith, near c), omega (arith, c.requires.2), c.requires.3)

pub loop-count-init : goal.loop-count-init
loop-count-init c = (far c).1
