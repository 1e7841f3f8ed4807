use native.Mathlib.Omega.{arith}
use borrow.Author.Rules.{rules}
use Rattle.use_fragment_queue.proofs.Walk.{ahead-start, ahead-here, ahead-next, ahead-end, answers}
use Rattle.use_fragment_queue.proofs.fragment_lookup.Goals as goal

pub returns-then-count-gt-ROOM : goal.returns-then-count-gt-ROOM
returns-then-count-gt-ROOM c = λ held m. absurd (omega (arith, m.count, m.fits, c.if-count-gt-ROOM.true))

pub loop-j-init : goal.loop-j-init
loop-j-init c = ahead-start _ _ _ _ (omega arith)

pub overflow_mul-covered : goal.overflow_mul-covered
overflow_mul-covered c = let inside = c.loop-j.invariant.inside in search rules

pub overflow_add-covered : goal.overflow_add-covered
overflow_add-covered c = let inside = c.loop-j.invariant.inside in search rules

pub offset_bounds-queue-at : goal.offset_bounds-queue-at
offset_bounds-queue-at c = let inside = c.loop-j.invariant.inside in search rules

pub bounds-queue-at : goal.bounds-queue-at
bounds-queue-at c = let inside = c.loop-j.invariant.inside in search rules

pub returns-then-left-covered : goal.returns-then-left-covered
returns-then-left-covered c = λ held m. answers _ (ahead-here _ _ _ _ c.loop-j.invariant c.loop-j-test.true c.if-left-covered.true) m

pub overflow_add-at : goal.overflow_add-at
overflow_add-at c = let inside = c.loop-j.invariant.inside in search rules

pub loop-j-preserved : goal.loop-j-preserved
loop-j-preserved c = ahead-next _ _ _ _ c.loop-j.invariant c.loop-j-test.true c.if-left-covered.false

pub returns : goal.returns
returns c = λ held m. answers _ (ahead-end _ _ _ _ c.loop-j.invariant c.loop-j-test.false) m
