use native.Mathlib.Omega.{arith}
use Rattle.table_rows.specs.Pattern.{covered_by}
use Rattle.table_runs.proofs.by_pattern.count_samples.Goals as goal

pub loop-pattern-init : goal.loop-pattern-init
loop-pattern-init c = rw c.first_pattern-here.ensures (c.requires, omega arith, omega arith, omega (arith, rw c.first_pattern-here.ensures at c.first_pattern-here.type_inv))

pub next_pattern-requires : goal.next_pattern-requires
next_pattern-requires c = c.loop-pattern.invariant.0

pub overflow_add-sum : goal.overflow_add-sum
overflow_add-sum c =
    let step = rw c.in-Some.is at c.next_pattern.ensures in
    omega (arith, c.loop-pattern.invariant.2, c.loop-pattern.invariant.3, step.fewer)

pub loop-pattern-smaller : goal.loop-pattern-smaller
loop-pattern-smaller c =
    let step = rw c.in-Some.is at c.next_pattern.ensures in
    step.fewer

pub loop-pattern-preserved : goal.loop-pattern-preserved
unfolding covered_by
loop-pattern-preserved c =
    let step = rw c.in-Some.is at c.next_pattern.ensures in
    let all = rw step.first at c.loop-pattern.invariant.1 in
    (step.whole, omega (arith, all), omega (arith, c.loop-pattern.invariant.2, step.fewer), c.loop-pattern.invariant.3)

pub returns : goal.returns
unfolding covered_by
returns c =
    let none = rw c.in_default.is at c.next_pattern.ensures in
    let all = rw none at c.loop-pattern.invariant.1 in
    (omega (arith, all), omega (arith, c.loop-pattern.invariant.2, c.loop-pattern.invariant.3))
