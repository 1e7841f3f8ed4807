-- By the test.
use mathlib.Core.Path.{refl}
use borrow.Author.Tests.{le-leb, lt-leb}
use Rattle.use_profile.proofs.survey.up_to_cut.Goals as goal

pub returns-then-position-cut : goal.returns-then-position-cut
returns-then-position-cut c = rw (le-leb _ _ c.if-position-cut.true) refl

pub returns-else-position-cut : goal.returns-else-position-cut
returns-else-position-cut c = rw (lt-leb _ _ c.if-position-cut.false) refl
