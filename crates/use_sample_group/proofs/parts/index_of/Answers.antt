use mathlib.Core.Path.{refl, sym, ◌∙◌}
use native.Mathlib.Omega.{arith}
use Rattle.use_sample_group.proofs.Turned.{index-here, index-behind, index-none}
use Rattle.use_sample_group.proofs.parts.index_of.Goals as goal

pub loop-pattern-init : goal.loop-pattern-init
loop-pattern-init c = rw c.first_pattern-here.ensures (c.requires, refl)

pub next_pattern-requires : goal.next_pattern-requires
next_pattern-requires c = c.loop-pattern.invariant.0

pub overflow_cast-k : goal.overflow_cast-k
overflow_cast-k c = omega (arith, c.if-k-count.true, c.struct_known-1.given)

pub turn_index-requires : goal.turn_index-requires
turn_index-requires c =
    let step = rw c.in-Some.is at c.next_pattern.ensures in
    step.stands

pub returns-then-k-count : goal.returns-then-k-count
returns-then-k-count c =
    let a = c.args in
    let step = rw c.in-Some.is at c.next_pattern.ensures in
    c.turn_index.ensures ∙ index-here a.s.now a.table c.loop-pattern.here _ _ step c.loop-pattern.k (omega (arith, c.if-k-count.true)) ∙ sym c.loop-pattern.invariant.1

pub loop-pattern-smaller : goal.loop-pattern-smaller
loop-pattern-smaller c =
    let step = rw c.in-Some.is at c.next_pattern.ensures in
    step.fewer

pub loop-pattern-preserved : goal.loop-pattern-preserved
loop-pattern-preserved c =
    let a = c.args in
    let step = rw c.in-Some.is at c.next_pattern.ensures in
    (step.whole, c.loop-pattern.invariant.1 ∙ index-behind a.s.now a.table c.loop-pattern.here _ _ step c.loop-pattern.k (omega (arith, c.if-k-count.false)))

pub returns-in-None : goal.returns-in-None
returns-in-None c =
    let none = rw c.in-None.is at c.next_pattern.ensures in
    index-none none c.loop-pattern.k ∙ sym c.loop-pattern.invariant.1
