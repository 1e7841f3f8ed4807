use native.Mathlib.Omega.{arith}
use borrow.Author.Tests.{lt-ltb, le-ltb}
use Rattle.group_entries.specs.Decoded.{signed16}
use borrow.Author.Rules.{rules}
use Rattle.listing_values.proofs.plain.shifted_distance.Goals as goal

pub returns-then-x-lt32768 : goal.returns-then-x-lt32768
unfolding signed16
returns-then-x-lt32768 c = (simp (lt-ltb _ _ c.if-x-lt32768.true), search rules)

pub returns-else-x-lt32768 : goal.returns-else-x-lt32768
unfolding signed16
returns-else-x-lt32768 c = (simp (le-ltb _ _ c.if-x-lt32768.false) (omega arith), search rules)
