use mathlib.Core.Path.{◌≡◌, refl, sym, ◌∙◌}
use native.Mathlib.Omega.{arith}
use lib.ListN.{length}
use Rattle.table_rows.specs.Pattern.{Pattern}
use Rattle.table_patterns.specs.Place.{pattern_in}
use Rattle.table_patterns.proofs.Indices.{indices-length}
use Rattle.listing_measure.proofs.Within.{within_first, within-last, run-means, over-run, pass-asks, over-periods, within-next, passes_on}
use Rattle.listing_measure.proofs.measure_pattern.Goals as goal
use Rattle.listing_measure.proofs.measure_pattern.Goals.{After-run_at-run}

-- the next run is read
module _ (c : After-run_at-run) where
  abbrev p : Pattern
  p = pattern_in c.args.table_s.now c.args.pattern

  size : c.args.pattern.length ≡ length p.indices
  size = sym (indices-length c.args.pattern.marks c.args.pattern.width c.args.table_s.now c.args.pattern.length c.args.pattern.indices)

pub loop-k-init : goal.loop-k-init
loop-k-init c =
    let a = c.args in
    (within_first a.grouping_type a.s.now (pattern_in a.table_s.now a.pattern) a.progress a.limit c.requires.pattern_means.1 c.requires.pattern_means.2 c.requires.at_le_limit.0, refl)

pub run_at-run-requires : goal.run_at-run-requires
run_at-run-requires c = (c.requires.stands.0, c.loop-k-test.true)

pub enter_run-entered-requires : goal.enter_run-entered-requires
enter_run-entered-requires c =
    let l = c.loop-k in
    let w = l.invariant.0 in
    let pre = c.requires in
    let a = c.args in
    let g = c.run_at-run.ensures in record {
      read_whole = (pre.stands.1, pre.stands.2, run-means a.grouping_type a.s.now (p (goal.at.enter_run-entered-requires c).After-run_at-run) a.progress a.limit l.k l.here l.mark w c.run_at-run.result g pre.pattern_means.0);
      in_hand = (w.held, w.alike, g.some, omega (arith, w.samples, g.within, pre.at_le_limit), omega (arith, w.near, pre.at_le_limit));
    }

pub returns-then-limit-hand : goal.returns-then-limit-hand
returns-then-limit-hand c =
    let here = (goal.at.returns-then-limit-hand c).After-run_at-run in
    let l = c.loop-k in
    let a = c.args in
    over-run a.grouping_type a.s.now (p here) a.progress a.limit l.k l.here l.mark l.invariant.0 c.run_at-run.result c.run_at-run.ensures _ _ c.enter_run-entered.result c.enter_run-entered.ensures.0 c.if-limit-hand.true

pub overflow_add-k : goal.overflow_add-k
overflow_add-k c =
    let here = (goal.at.overflow_add-k c).After-run_at-run in
    omega (arith, c.run_at-run.ensures.within)

pub pass_periods-requires : goal.pass_periods-requires
pass_periods-requires c =
    let here = (goal.at.pass_periods-requires c).After-run_at-run in
    let l = c.loop-k in
    let a = c.args in
    let pre = c.requires in
    let near = c.if-limit-hand.false in
    let asks =
    pass-asks a.grouping_type a.s.now (p here) a.progress a.limit l.k l.here l.mark l.invariant.0 c.run_at-run.result c.run_at-run.ensures _ _ c.enter_run-entered.result c.enter_run-entered.ensures.0 (omega (arith, pre.at_le_limit))
    (omega (arith, near))
    in
    record { sample_le_k = (asks.0, asks.1, pre.stands.0.some); at_le_at = (asks.2, omega (arith, near), asks.3) }

pub loop-k-smaller : goal.loop-k-smaller
loop-k-smaller c =
    let here = (goal.at.loop-k-smaller c).After-run_at-run in
    let l = c.loop-k in
    let a = c.args in
    let passed = rw c.in_ok-next.was at c.pass_periods.ensures in
    let on = passes_on a.grouping_type a.s.now (p here) a.progress a.limit l.k l.here l.mark l.invariant.0 c.run_at-run.result c.run_at-run.ensures _ _ c.enter_run-entered.result c.enter_run-entered.ensures.0 _ (size here) passed in
    omega (arith, on, c.loop-k-test.true)

pub loop-k-preserved : goal.loop-k-preserved
loop-k-preserved c =
    let here = (goal.at.loop-k-preserved c).After-run_at-run in
    let l = c.loop-k in
    let a = c.args in
    let passed = rw c.in_ok-next.was at c.pass_periods.ensures in (
      within-next a.grouping_type a.s.now (p here) a.progress a.limit l.k l.here l.mark l.invariant.0 c.run_at-run.result c.run_at-run.ensures _ _ c.enter_run-entered.result c.enter_run-entered.ensures.0 _ (size here) passed c.enter_run-entered.ensures.1,
      c.enter_run-entered.auto.out ∙ l.invariant.1,
    )

pub returns-in_err-next : goal.returns-in_err-next
returns-in_err-next c =
    let here = (goal.at.returns-in_err-next c).After-run_at-run in
    let l = c.loop-k in
    let a = c.args in
    let passed = rw c.in_err-next.was at c.pass_periods.ensures in
    rw c.from_residual.ensures (over-periods a.grouping_type a.s.now (p here) a.progress a.limit l.k l.here l.mark l.invariant.0 c.run_at-run.result c.run_at-run.ensures _ _ c.enter_run-entered.result c.enter_run-entered.ensures.0 _ (size here) passed)

pub returns : goal.returns
returns c =
    let a = c.args in
    within-last a.grouping_type a.s.now (pattern_in a.table_s.now a.pattern) a.progress a.limit c.loop-k.invariant.0 c.loop-k-test.false
