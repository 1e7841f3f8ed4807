-- The number grows, or goes round.
use mathlib.Core.Path.{refl}
use borrow.Author.Tests.{lt-ltb, le-ltb}
use Rattle.listing_stretches.proofs.recall.remember.Goals as goal

pub returns-then-kept-lt31 : goal.returns-then-kept-lt31
returns-then-kept-lt31 c = (simp (lt-ltb _ _ c.if-kept-lt31.true), refl)

pub returns : goal.returns
returns c = (simp (le-ltb _ _ c.if-kept-lt31.false), refl)
