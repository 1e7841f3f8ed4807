use mathlib.Core.Path.{◌≡◌, ap, sym, ◌∙◌}
use mathlib.Core.List.{List}
use Prim.Native.Nat.{ℕ, ◌+◌, ◌/◌, ◌%◌, ◌<◌, min}
use native.Mathlib.Omega.{arith}
use lib.ListN.{length, take, length-take}
use Rattle.table_patterns.specs.Place.{pattern_in}
use Rattle.table_patterns.specs.declared.PatternAt.{PatternAt}
use Rattle.table_patterns.proofs.Indices.{indices-length}
use Rattle.table_views.specs.Stretches.{Summary, summary, join, times}
use Rattle.use_profile.specs.Survey.{kind_in, survey, told_seen, told_gaps}
use Rattle.use_profile.proofs.Surveys.{survey-empty}
use Rattle.use_profile.proofs.Sizes.{at_most, both-fit}
use Rattle.use_profile.proofs.Turns.{gap_by, cut-none, cut-more, turns-few, survey-more, survey-gaps, seen-at-most, turns-at-most, survey-turns}
use Rattle.use_profile.proofs.survey.survey_pattern.Goals as goal
use Rattle.use_profile.proofs.survey.survey_pattern.Goals.{After-joined, After-repeated}

sized : (s : List ℕ) (p : PatternAt) → length (pattern_in s p).indices ≡ p.length
sized s p = indices-length p.marks p.width s p.length p.indices

-- behind the loop: all used positions are seen
module _ (c : After-repeated) where
  ended : c.loop-i.i ≡ min (length ((pattern_in c.args.table_s.now c.args.pattern).indices)) (c.args.pattern.count)
  ended = omega (arith, sized c.args.table_s.now c.args.pattern, c.used_positions-used.ensures, c.loop-i.invariant.0, c.loop-i-test.false)

  turn-whole : told_seen c.loop-i.turn ≡ survey (kind_in c.args.s.now) (take (min (length ((pattern_in c.args.table_s.now c.args.pattern).indices)) (c.args.pattern.count)) ((pattern_in c.args.table_s.now c.args.pattern).indices))
  turn-whole = c.loop-i.invariant.1 ∙ ap (λ (n : ℕ). survey (kind_in c.args.s.now) (take n ((pattern_in c.args.table_s.now c.args.pattern).indices))) ended

  cut-whole : min c.loop-i.i ((c.args.pattern.count) % (c.args.pattern.length)) ≡ min (min (length ((pattern_in c.args.table_s.now c.args.pattern).indices)) (c.args.pattern.count)) ((c.args.pattern.count) % length ((pattern_in c.args.table_s.now c.args.pattern).indices))
  cut-whole = ap (λ (n : ℕ). min n ((c.args.pattern.count) % (c.args.pattern.length))) ended ∙ ap (λ (n : ℕ). min (min (length ((pattern_in c.args.table_s.now c.args.pattern).indices)) (c.args.pattern.count)) ((c.args.pattern.count) % n)) (sym (sized c.args.table_s.now c.args.pattern))

  last-cut : told_gaps c.loop-i.last ≡ summary (gap_by (kind_in c.args.s.now)) (take (min (min (length ((pattern_in c.args.table_s.now c.args.pattern).indices)) (c.args.pattern.count)) ((c.args.pattern.count) % length ((pattern_in c.args.table_s.now c.args.pattern).indices))) ((pattern_in c.args.table_s.now c.args.pattern).indices))
  last-cut = c.loop-i.invariant.2 ∙ ap (λ (n : ℕ). summary (gap_by (kind_in c.args.s.now)) (take n ((pattern_in c.args.table_s.now c.args.pattern).indices))) cut-whole

  turns : told_gaps c.repeated.result ≡ times ((c.args.pattern.count) / length ((pattern_in c.args.table_s.now c.args.pattern).indices)) (told_gaps c.loop-i.turn.gaps)
  turns = c.repeated.ensures ∙ ap (λ (n : ℕ). times ((c.args.pattern.count) / n) (told_gaps c.loop-i.turn.gaps)) (sym (sized c.args.table_s.now c.args.pattern))

  turned : told_gaps c.repeated.result ≡ times ((c.args.pattern.count) / length ((pattern_in c.args.table_s.now c.args.pattern).indices)) (summary (gap_by (kind_in c.args.s.now)) (take (min (length ((pattern_in c.args.table_s.now c.args.pattern).indices)) (c.args.pattern.count)) ((pattern_in c.args.table_s.now c.args.pattern).indices)))
  turned = turns ∙ ap (times ((c.args.pattern.count) / length ((pattern_in c.args.table_s.now c.args.pattern).indices))) (survey-gaps (kind_in c.args.s.now) (take (min (length ((pattern_in c.args.table_s.now c.args.pattern).indices)) (c.args.pattern.count)) ((pattern_in c.args.table_s.now c.args.pattern).indices)) turn-whole)

joins : (c : After-joined) → told_gaps c.joined.result ≡ join (times ((c.args.pattern.count) / length ((pattern_in c.args.table_s.now c.args.pattern).indices)) (told_gaps c.loop-i.turn.gaps)) (told_gaps c.loop-i.last)
joins c =
    c.joined.ensures ∙ ap (λ (s : Summary). join s (told_gaps c.loop-i.last))
    (c.repeated.ensures ∙ ap (λ (n : ℕ). times ((c.args.pattern.count) / n) (told_gaps c.loop-i.turn.gaps)) (sym (sized c.args.table_s.now c.args.pattern)))

pub nonzero_rem-cut : goal.nonzero_rem-cut
nonzero_rem-cut c = c.requires.0.some

pub nonzero_div-turns : goal.nonzero_div-turns
nonzero_div-turns c = c.requires.0.some

pub loop-i-init : goal.loop-i-init
loop-i-init c =
    let p = c.args.pattern in
    let l = (pattern_in c.args.table_s.now p).indices in
    let f = kind_in c.args.s.now in
    (omega arith, c.nothing_seen-turn.ensures ∙ sym (survey-empty f), c.no_gaps-last.ensures ∙ sym (cut-none (gap_by f) l (p.count % p.length)))

pub index_at-requires : goal.index_at-requires
index_at-requires c =
    (c.requires.0, omega (arith, c.used_positions-used.ensures, c.loop-i-test.true))

pub index_kind-kind-requires : goal.index_kind-kind-requires
index_kind-kind-requires c =
    (c.requires.1, c.requires.2)

pub seen_more-turn-requires : goal.seen_more-turn-requires
seen_more-turn-requires c =
    let few = length-take c.loop-i.i ((pattern_in c.args.table_s.now c.args.pattern).indices) in
    seen-at-most (kind_in c.args.s.now) (take c.loop-i.i ((pattern_in c.args.table_s.now c.args.pattern).indices)) 4294967295 c.loop-i.turn c.loop-i.invariant.1
    (omega (arith, few, c.loop-i.invariant.0, c.used_positions-used.ensures))

pub overflow_add-i : goal.overflow_add-i
overflow_add-i c =
    omega (arith, c.loop-i.invariant.0, c.used_positions-used.ensures, c.loop-i-test.true)

pub loop-i-smaller : goal.loop-i-smaller
loop-i-smaller c = omega (arith, c.loop-i-test.true)

pub loop-i-preserved : goal.loop-i-preserved
loop-i-preserved c =
    let i = c.loop-i.i in
    let l = ((pattern_in c.args.table_s.now c.args.pattern).indices) in
    let below : i < length l = omega (arith, sized c.args.table_s.now c.args.pattern, c.used_positions-used.ensures, c.loop-i-test.true) in
    let own = c.index_kind-kind.ensures ∙ ap (kind_in c.args.s.now) c.index_at.ensures in
    let seen = survey-more (kind_in c.args.s.now) l i below own c.loop-i.invariant.1 c.seen_more-turn.ensures in (
      omega (arith, c.loop-i-test.true),
      seen,
      cut-more (gap_by (kind_in c.args.s.now)) l i _ (survey-gaps (kind_in c.args.s.now) (take (i + 1) l) seen) c.loop-i.invariant.2 c.up_to_cut-last.ensures,
    )

pub repeated-requires : goal.repeated-requires
repeated-requires c =
    let p = c.args.pattern in
    let short = length-take c.loop-i.i ((pattern_in c.args.table_s.now c.args.pattern).indices) in
    let m = seen-at-most (kind_in c.args.s.now) (take c.loop-i.i ((pattern_in c.args.table_s.now c.args.pattern).indices)) p.length c.loop-i.turn c.loop-i.invariant.1 (omega (arith, short, c.loop-i.invariant.0, c.used_positions-used.ensures)) in
    let few = turns-few p.count p.length in (
      record { front = omega (arith, m.front); back = omega (arith, m.back); longest = omega (arith, m.longest) },
      omega (arith, few _ m.front),
      omega (arith, few _ m.back),
      omega (arith, few _ m.longest),
    )

pub joined-requires : goal.joined-requires
joined-requires c =
    let p = c.args.pattern in
    let short = length-take (min c.loop-i.i (p.count % p.length)) ((pattern_in c.args.table_s.now c.args.pattern).indices) in
    let last = at_most (gap_by (kind_in c.args.s.now)) _ 4294967295 c.loop-i.last c.loop-i.invariant.2 (omega (arith, short, sized c.args.table_s.now c.args.pattern)) in
    let whole = turns-at-most (kind_in c.args.s.now) ((pattern_in c.args.table_s.now c.args.pattern).indices) p.count c.repeated.result (turned (goal.at.joined-requires c).After-repeated) 4294967295 (omega (arith)) in
    both-fit 4294967295 4294967295 c.repeated.result c.loop-i.last whole last (omega arith)

pub returns : goal.returns
returns c =
    let p = pattern_in c.args.table_s.now c.args.pattern in
    let n = sized c.args.table_s.now c.args.pattern in
    survey-turns (kind_in c.args.s.now) p (omega (arith, n, c.requires.0.some)) (turn-whole (goal.at.returns c).After-repeated) (last-cut (goal.at.returns c).After-repeated) (joins (goal.at.returns c).After-joined)
