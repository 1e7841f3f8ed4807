-- By its parts.
use mathlib.Core.Path.{refl}
use Rattle.use_profile.proofs.survey.seen_more.Goals as goal

pub returns : goal.returns
returns c =
    rw (c.both-2.ensures, c.is_found.ensures, c.both.ensures, c.is_known.ensures)
    (rw (c.one_more.ensures, c.is_gap.ensures) refl)
