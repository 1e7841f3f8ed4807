-- The last index that passed has a meaning; else the meaning that is found is checked.
use mathlib.Core.Path.{refl, ap, sym, ◌∙◌}
use Rattle.base_fields.specs.Answer.{Answer, given, and_then}
use Rattle.listing_theorem.specs.Meaning.{Meaning}
use Rattle.listing_meanings.proofs.Found.{meaning-is, entries-are}
use Rattle.listing_meanings.proofs.check.check_index.Goals as goal

pub returns-then-index-last : goal.returns-then-index-last
returns-then-index-last c = rw (c.if-index-last.true, c.requires.2.given) refl

pub check_meaning-requires : goal.check_meaning-requires
check_meaning-requires c =
    (c.requires.0.head.short, c.meaning_at.ensures.inside)

pub returns : goal.returns
returns c =
    let r = c.requires.0 in
    let i = c.args.index.0 in
    let t = c.args.grouping_type in
    c.check_meaning.ensures
    ∙ ap (λ (x : Answer Meaning). and_then x (λ v. given tt)) (c.meaning_at.ensures.meant t _ (entries-are r i) ∙ sym (meaning-is r i t))
