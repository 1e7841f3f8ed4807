-- By the tests.
use mathlib.Core.Path.{refl}
use borrow.Author.Tests.{ne_eqb}
use Rattle.use_profile.proofs.rules.starts_inside.Goals as goal

pub returns-then-covered-eq0 : goal.returns-then-covered-eq0
returns-then-covered-eq0 c = rw c.if-covered-eq0.true refl

pub returns : goal.returns
returns c = rw (ne_eqb _ _ c.if-covered-eq0.false) refl
