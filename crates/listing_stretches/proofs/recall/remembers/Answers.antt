use mathlib.Core.Path.{◌≡◌}
use native.Mathlib.Decide.{dec_lt}
use native.Mathlib.Omega.{arith}
use Rattle.listing_stretches.proofs.recall.remembers.Goals as goal

pub loop-k-init : goal.loop-k-init
loop-k-init c j h e = absurd (omega arith)

pub returns-then-kept-k : goal.returns-then-kept-k
returns-then-kept-k c keeps = c.loop-k.invariant keeps.0 (omega (arith, keeps.2, c.if-kept-k.true)) keeps.3

pub returns-then-memory-at : goal.returns-then-memory-at
returns-then-memory-at c = (_, c.loop-k-test.true, omega (arith, c.if-kept-k.false), c.if-memory-at.true)

pub loop-k-preserved : goal.loop-k-preserved
loop-k-preserved c j h e =
    elim (dec_lt j c.loop-k.k) [
      | yes before ↦ c.loop-k.invariant j before e
      | no behind ↦ let same : j ≡ c.loop-k.k = omega arith in c.if-memory-at.false (rw same at e)
    ]

pub returns : goal.returns
returns c keeps = c.loop-k.invariant keeps.0 (omega (arith, keeps.1, c.loop-k-test.false)) keeps.3
