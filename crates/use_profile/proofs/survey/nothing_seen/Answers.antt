-- By the definition.
use mathlib.Core.Path.{ap}
use Rattle.table_views.specs.Stretches.{Summary}
use Rattle.use_profile.specs.Survey.{Survey}
use mathlib.Core.Bool.{true}
use Rattle.use_profile.proofs.survey.nothing_seen.Goals as goal

pub returns : goal.returns
returns c = ap {B = Survey} (λ (g : Summary). record { gaps = g; known = true; found = true }) c.no_gaps.ensures
