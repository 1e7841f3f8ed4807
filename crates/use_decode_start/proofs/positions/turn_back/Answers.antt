-- By the test.
use mathlib.Core.Path.{refl}
use borrow.Author.Tests.{lt-ltb, le-ltb}
use Rattle.use_decode_start.proofs.positions.turn_back.Goals as goal

pub returns-then-position-cut : goal.returns-then-position-cut
returns-then-position-cut c = rw (lt-ltb _ _ c.if-position-cut.true) refl

pub returns-else-position-cut : goal.returns-else-position-cut
returns-else-position-cut c = rw (le-ltb _ _ c.if-position-cut.false) refl
