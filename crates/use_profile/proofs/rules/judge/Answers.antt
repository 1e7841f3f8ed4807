-- By the rules.
use Rattle.use_profile.specs.Survey.{verdict_by}
use Rattle.use_profile.proofs.rules.judge.Goals as goal

pub returns : goal.returns
unfolding verdict_by
returns c = rw (← c.starts_inside.ensures, ← c.short_gaps.ensures) c.first_broken.ensures
