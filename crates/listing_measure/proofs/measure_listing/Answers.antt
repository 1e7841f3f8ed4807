use mathlib.Core.Path.{refl, ◌∙◌}
use mathlib.Core.List.{List}
use native.Mathlib.Omega.{arith}
use Rattle.table_rows.specs.Pattern.{Pattern}
use Rattle.table_runs.specs.Ahead.{all_in, ahead_in}
use Rattle.listing_measure.proofs.Meant.{mean-first}
use Rattle.listing_measure.proofs.Through.{over_first, through-first, over-next, through-next, through-end, first_fits}
use Rattle.listing_measure.proofs.measure_listing.Goals as goal
use Rattle.listing_measure.proofs.measure_listing.Goals.{At-loop-pattern}

-- at the loop's head
module _ (c : At-loop-pattern) where
  abbrev all : List Pattern
  all = ahead_in c.args.table_s.now c.args.table (all_in c.args.table)

pub returns-then-limit-progress : goal.returns-then-limit-progress
returns-then-limit-progress c =
    let a = c.args in
    over_first a.grouping_type a.s.now (ahead_in a.table_s.now a.table (all_in a.table)) a.limit a.covered c.requires.all_mean.1 c.begin_listing-progress.ensures c.if-limit-progress.true

pub loop-pattern-init : goal.loop-pattern-init
loop-pattern-init c =
    let a = c.args in
    rw c.first_pattern-here.ensures (
      c.requires.whole_in.0,
      through-first a.grouping_type a.s.now (ahead_in a.table_s.now a.table (all_in a.table)) a.limit a.covered c.requires.all_mean.1 c.begin_listing-progress.ensures c.requires.whole_in.1 c.requires.all_mean.0 c.requires.covered_le_covered_limit.0 (omega (arith, c.if-limit-progress.false)) refl,
      refl,
    )

pub next_pattern-requires : goal.next_pattern-requires
next_pattern-requires c = c.loop-pattern.invariant.0

pub measure_pattern-requires : goal.measure_pattern-requires
measure_pattern-requires c =
    let a = c.args in
    let pre = c.requires in
    let step = rw c.in-Some.is at c.next_pattern.ensures in
    let y = rw step.first at c.loop-pattern.invariant.1 in record {
      stands = (step.stands, pre.whole_in.1, pre.whole_in.2);
      pattern_means = (mean-first _ _ _ _ y.mean, y.held, y.alike);
      at_le_limit = (y.near, pre.covered_le_covered_limit.1, first_fits a.grouping_type a.s.now (all (goal.at.measure_pattern-requires c).At-loop-pattern) a.limit _ _ _ y);
    }

pub loop-pattern-smaller : goal.loop-pattern-smaller
loop-pattern-smaller c =
    let step = rw c.in-Some.is at c.next_pattern.ensures in
    step.fewer

pub loop-pattern-preserved : goal.loop-pattern-preserved
loop-pattern-preserved c =
    let a = c.args in
    let step = rw c.in-Some.is at c.next_pattern.ensures in
    let y = rw step.first at c.loop-pattern.invariant.1 in
    let m = rw c.in_ok-progress-in-Some.was at c.measure_pattern.ensures in
    (step.whole, through-next a.grouping_type a.s.now (all (goal.at.loop-pattern-preserved c).At-loop-pattern) a.limit _ _ _ y m, c.measure_pattern.auto.out ∙ c.loop-pattern.invariant.2)

pub returns-in_err-progress-in-Some : goal.returns-in_err-progress-in-Some
returns-in_err-progress-in-Some c =
    let a = c.args in
    let step = rw c.in-Some.is at c.next_pattern.ensures in
    let y = rw step.first at c.loop-pattern.invariant.1 in
    rw c.from_residual.ensures (over-next a.grouping_type a.s.now (all (goal.at.returns-in_err-progress-in-Some c).At-loop-pattern) a.limit _ _ _ y (rw c.in_err-progress-in-Some.was at c.measure_pattern.ensures))

pub measure_end-requires : goal.measure_end-requires
measure_end-requires c =
    let x = c.loop-pattern.invariant.1 in
    ((c.args.head, c.requires.whole_in.1), x.held, omega (arith, x.near, c.requires.covered_le_covered_limit))

pub returns-in-None : goal.returns-in-None
returns-in-None c =
    let a = c.args in
    let none = rw c.in-None.is at c.next_pattern.ensures in
    through-end a.grouping_type a.s.now (all (goal.at.returns-in-None c).At-loop-pattern) a.limit c.loop-pattern.progress (rw none at c.loop-pattern.invariant.1) c.measure_end.result c.measure_end.ensures
