-- By the definition, and by what grows.
use mathlib.Core.Path.{refl}
use Rattle.table_views.specs.Stretches.{step}
use Rattle.use_profile.proofs.Steps.{step-more}
use Rattle.use_profile.proofs.stretches.one_more.Goals as goal

pub returns-then-gap : goal.returns-then-gap
returns-then-gap c = rw (c.if-gap.true, c.max.ensures, c.grown.ensures) (step-more _ _ _ _)

pub returns : goal.returns
unfolding step
returns c = rw c.if-gap.false refl
