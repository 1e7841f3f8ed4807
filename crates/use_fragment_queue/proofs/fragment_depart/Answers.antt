-- 72, the answers over a queue that no calls made, then the queue without its oldest fragment.
use native.Mathlib.Omega.{arith}
use Rattle.use_fragment_queue.proofs.Steps.{nothing-held, goes, unmade, oldest-counted}
use Rattle.use_fragment_queue.proofs.fragment_depart.Goals as goal

pub returns-then-count-eq0 : goal.returns-then-count-eq0
returns-then-count-eq0 c = nothing-held _ c.if-count-eq0.true

pub returns-then-covered_sum-covered : goal.returns-then-covered_sum-covered
returns-then-covered_sum-covered c = unmade _ _ _ (λ held m. omega (arith, oldest-counted c.if-count-eq0.false m, c.if-covered_sum-covered.true))

pub returns-then-members_sum-members : goal.returns-then-members_sum-members
returns-then-members_sum-members c = unmade _ _ _ (λ held m. omega (arith, oldest-counted c.if-count-eq0.false m, c.if-members_sum-members.true))

pub returns : goal.returns
returns c = goes _ c.if-count-eq0.false _ _ (omega arith) (omega arith)
