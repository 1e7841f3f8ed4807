-- By the meaning that is found.
use mathlib.Core.Path.{ap, sym, ◌∙◌}
use Rattle.base_fields.specs.Fourcc as fourcc
use Rattle.listing_meanings.proofs.Found.{meaning-is, entries-are}
use Rattle.use_profile.specs.Survey.{kind_told}
use Rattle.use_profile.proofs.kinds.index_kind.Goals as goal

pub returns : goal.returns
returns c =
    let r = c.requires.0 in
    let i = c.args.index.0 in
    c.meaning_kind.ensures ∙ ap kind_told (c.meaning_at.ensures.meant fourcc.rap _ (entries-are r i) ∙ sym (meaning-is r i fourcc.rap))
