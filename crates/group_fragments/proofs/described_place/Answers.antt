-- 55 of either payload, then the payload that bit 31 picks.
use Rattle.group_fragments.specs.Fragments.{local_bit}
use mathlib.Core.Bool.{true, false}
use mathlib.Core.Path.{◌≡◌, sym, ◌∙◌}
use borrow.Author.Tests.{lt-ltb, le-ltb}
use Rattle.group_fragments.proofs.described_place.Goals as goal

pub returns-then-film-gt-INPUT_LIMIT : goal.returns-then-film-gt-INPUT_LIMIT
returns-then-film-gt-INPUT_LIMIT c = simp (lt-ltb _ _ c.if-film-gt-INPUT_LIMIT.true)

pub returns-then-fragment-gt-INPUT_LIMIT : goal.returns-then-fragment-gt-INPUT_LIMIT
returns-then-fragment-gt-INPUT_LIMIT c = simp (le-ltb _ _ c.if-film-gt-INPUT_LIMIT.false, lt-ltb _ _ c.if-fragment-gt-INPUT_LIMIT.true)

pub returns-then-split : goal.returns-then-split
returns-then-split c =
    let a = c.args in
    let b : local_bit a.raw ≡ true = sym c.split_csgp_index-split.ensures.1 ∙ c.if-split.true in
    c.in_fragment.ensures ∙ simp (le-ltb _ _ c.if-film-gt-INPUT_LIMIT.false, le-ltb _ _ c.if-fragment-gt-INPUT_LIMIT.false, b, c.split_csgp_index-split.ensures.0)

pub returns : goal.returns
returns c =
    let a = c.args in
    let b : local_bit a.raw ≡ false = sym c.split_csgp_index-split.ensures.1 ∙ c.if-split.false in
    c.in_film.ensures ∙ simp (le-ltb _ _ c.if-film-gt-INPUT_LIMIT.false, le-ltb _ _ c.if-fragment-gt-INPUT_LIMIT.false, b, c.split_csgp_index-split.ensures.0)
