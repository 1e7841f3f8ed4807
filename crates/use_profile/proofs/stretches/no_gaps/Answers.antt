-- By the definition.
use mathlib.Core.Path.{refl}
use Rattle.table_views.specs.Stretches.{no_samples_of}
use Rattle.use_profile.proofs.stretches.no_gaps.Goals as goal

pub returns : goal.returns
unfolding no_samples_of
returns c = refl
