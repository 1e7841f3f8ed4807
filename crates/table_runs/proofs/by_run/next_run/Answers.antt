use mathlib.Core.Path.{refl, ◌∙◌}
use native.Mathlib.Omega.{arith}
use Rattle.table_runs.proofs.Sampled.{passed_over, run_on, runs-from}
use Rattle.table_runs.proofs.by_run.next_run.Goals as goal

pub loop-pattern-init : goal.loop-pattern-init
loop-pattern-init c = (c.requires, refl)

pub next_pattern-requires : goal.next_pattern-requires
next_pattern-requires c = c.loop-pattern.invariant.0

pub run_at-run-requires : goal.run_at-run-requires
run_at-run-requires c =
    let here = c.loop-pattern.here in
    let k = c.loop-pattern.k in
    let step = rw c.in-Some.is at c.next_pattern.ensures in
    (step.stands, c.if-k-pattern.true)

pub overflow_add-behind : goal.overflow_add-behind
overflow_add-behind c = omega (arith, c.run_at-run.ensures.within)

pub returns-then-k-pattern : goal.returns-then-k-pattern
returns-then-k-pattern c =
    let here = c.loop-pattern.here in
    let k = c.loop-pattern.k in
    let step = rw c.in-Some.is at c.next_pattern.ensures in
    let r = run_on c.args.s.now c.args.table here _ _ step k c.loop-pattern.invariant.0 c.run_at-run.result c.run_at-run.ensures in
    runs-from c.args.s.now c.args.table c.args.cursor _ c.loop-pattern.invariant.1 r

pub loop-pattern-smaller : goal.loop-pattern-smaller
loop-pattern-smaller c =
    let here = c.loop-pattern.here in
    let k = c.loop-pattern.k in
    let step = rw c.in-Some.is at c.next_pattern.ensures in
    step.fewer

pub loop-pattern-preserved : goal.loop-pattern-preserved
loop-pattern-preserved c =
    let here = c.loop-pattern.here in
    let k = c.loop-pattern.k in
    let step = rw c.in-Some.is at c.next_pattern.ensures in
    (step.whole, c.loop-pattern.invariant.1 ∙ passed_over c.args.s.now c.args.table here _ _ step k c.if-k-pattern.false)

pub returns : goal.returns
returns c =
    let none = rw c.in_default.is at c.next_pattern.ensures in
    c.loop-pattern.invariant.1 ∙ rw none refl
