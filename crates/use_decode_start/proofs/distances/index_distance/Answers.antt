-- By the meaning that is found.
use mathlib.Core.Path.{ap, sym, ◌∙◌}
use Rattle.base_fields.specs.Answer.{Answer, given, and_then}
use Rattle.listing_theorem.specs.Meaning.{Meaning}
use Rattle.listing_meanings.proofs.Found.{meaning-is, entries-are}
use Rattle.use_decode_start.specs.Start.{distance_of_meaning}
use Rattle.use_decode_start.proofs.distances.index_distance.Goals as goal

pub returns : goal.returns
returns c =
    let r = c.requires.0 in
    let i = c.args.index.0 in
    let t = c.args.grouping_type in
    c.meaning_distance.ensures
    ∙ ap (λ (x : Answer Meaning). and_then x (λ m. given (distance_of_meaning m))) (c.meaning_at.ensures.meant t _ (entries-are r i) ∙ sym (meaning-is r i t))
