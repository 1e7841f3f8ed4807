-- By its parts.
use mathlib.Core.Path.{refl}
use Rattle.use_profile.proofs.survey.seen_behind.Goals as goal

pub returns : goal.returns
returns c = rw (c.both-2.ensures, c.both.ensures, c.joined.ensures) refl
