-- By the test of the top bit.
use mathlib.Core.Path.{refl}
use borrow.Author.Tests.{lt-ltb, le-ltb}
use Rattle.group_entries.specs.Decoded.{signed16}
use Rattle.use_decode_start.proofs.distances.signed_distance.Goals as goal

pub returns-then-x-lt32768 : goal.returns-then-x-lt32768
unfolding signed16
returns-then-x-lt32768 c = rw (lt-ltb _ _ c.if-x-lt32768.true) refl

pub returns-else-x-lt32768 : goal.returns-else-x-lt32768
unfolding signed16
returns-else-x-lt32768 c = rw (le-ltb _ _ c.if-x-lt32768.false) refl
