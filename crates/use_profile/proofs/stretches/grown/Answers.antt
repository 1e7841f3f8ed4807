-- By the test.
use mathlib.Core.Path.{refl}
use Rattle.use_profile.proofs.stretches.grown.Goals as goal

pub returns-then-all : goal.returns-then-all
returns-then-all c = rw c.if-all.true refl
