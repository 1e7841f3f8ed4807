use mathlib.Core.Path.{sym, subst}
use native.Mathlib.Omega.{arith}
use lib.ListN.{length}
use Rattle.table_rows.specs.Pattern.{samples_from}
use Rattle.table_rows.proofs.Samples.{samples_from-length}
use Rattle.table_patterns.specs.Place.{pattern_in}
use Rattle.table_csgp_head.specs.declared.PatternsAt.{PatternsAt}
use Rattle.table_runs.specs.Ahead.{all_in, ahead_in, Step}
use Rattle.use_profile.specs.Survey.{kind_in, told_seen}
use Rattle.use_profile.proofs.Sizes.{both-fit}
use Rattle.use_profile.proofs.Turns.{seen-at-most}
use Rattle.use_profile.proofs.Tables.{Entered, entered-none, entered-more, entered_all, entered-few}
use Rattle.use_profile.proofs.survey.survey_table.Goals as goal
use Rattle.use_profile.proofs.survey.survey_table.Goals.{In-Some}

-- the first pattern ahead
step : (c : In-Some) → Step c.args.table_s.now c.args.table c.loop-pattern.here c.in-Some.pattern c.in-Some.behind
step c = rw c.in-Some.is at c.next_pattern.ensures

pub loop-pattern-init : goal.loop-pattern-init
loop-pattern-init c =
    let ts = c.args.table_s.now in
    let t = c.args.table in
    let s = c.args.s.now in
    let none = entered-none s (ahead_in ts t (all_in t)) c.nothing_seen-seen.ensures in (
      rw c.first_pattern-here.ensures c.requires.0,
      subst (λ (h : PatternsAt). Entered ts t s h (told_seen c.nothing_seen-seen.result)) (sym c.first_pattern-here.ensures) none,
    )

pub next_pattern-requires : goal.next_pattern-requires
next_pattern-requires c = c.loop-pattern.invariant.0

pub survey_pattern-requires : goal.survey_pattern-requires
survey_pattern-requires c =
    ((step (goal.at.survey_pattern-requires c).In-Some).stands, c.requires.1, c.requires.2)

pub seen_behind-seen-requires : goal.seen_behind-seen-requires
seen_behind-seen-requires c =
    let p = pattern_in c.args.table_s.now c.in-Some.pattern in
    let entered = c.loop-pattern.invariant.1 in
    let f = kind_in c.args.s.now in
    let n = length entered.before in
    let own = samples_from-length p 0 p.count in
    let few = entered-few c.args.s.now (ahead_in c.args.table_s.now c.args.table (all_in c.args.table)) entered (step (goal.at.seen_behind-seen-requires c).In-Some).first in
    both-fit n p.count c.loop-pattern.seen.gaps c.survey_pattern.result.gaps
    (seen-at-most f entered.before n c.loop-pattern.seen entered.seen (omega arith))
    (seen-at-most f (samples_from p 0 p.count) p.count c.survey_pattern.result c.survey_pattern.ensures (omega (arith, own)))
    (omega (arith, few, c.requires.3))

pub loop-pattern-smaller : goal.loop-pattern-smaller
loop-pattern-smaller c = (step (goal.at.loop-pattern-smaller c).In-Some).fewer

pub loop-pattern-preserved : goal.loop-pattern-preserved
loop-pattern-preserved c =
    let more = entered-more c.args.s.now (ahead_in c.args.table_s.now c.args.table (all_in c.args.table)) c.loop-pattern.invariant.1 (step (goal.at.loop-pattern-preserved c).In-Some).first in
    ((step (goal.at.loop-pattern-preserved c).In-Some).whole, more c.survey_pattern.ensures c.seen_behind-seen.ensures)

pub returns : goal.returns
returns c =
    entered_all c.args.s.now (ahead_in c.args.table_s.now c.args.table (all_in c.args.table)) c.loop-pattern.invariant.1 (rw c.in_default.is at c.next_pattern.ensures)
