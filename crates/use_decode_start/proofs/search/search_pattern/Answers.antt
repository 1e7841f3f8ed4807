use mathlib.Core.Path.{◌≡◌, refl, ap, sym, ◌∙◌}
use mathlib.Core.Option.{Option, none}
use Prim.Native.Nat.{ℕ, ◌+◌, ◌≤◌, ◌<◌, min}
use native.Mathlib.Omega.{arith}
use lib.ListN.{length, get_or, take}
use Rattle.table_patterns.specs.Place.{pattern_in}
use Rattle.table_patterns.proofs.Indices.{indices-length}
use Rattle.table_views.specs.Used.{used, first_refusal}
use Rattle.table_views.specs.Search.{larger, best_at}
use Rattle.listing_meanings.specs.Meant.{meaning_in}
use Rattle.listing_meanings.proofs.Checking.{passed_none, refused-here, used-taken}
use Rattle.use_decode_start.specs.Inner.{told_latest, distance_in}
use Rattle.use_decode_start.proofs.Entries.{distance-given, distance-refused}
use Rattle.use_decode_start.proofs.Bests.{larger-none, larger_assoc, larger-told, best_behind, best-step, best-end, passed-used}
use Rattle.use_decode_start.proofs.search.search_pattern.Goals as goal
use Rattle.use_decode_start.proofs.search.search_pattern.Goals.{After-index_distance, At-loop-i}

-- at the loop's head
module _ (c : At-loop-i) where
  sized : length ((pattern_in c.args.table_s.now c.args.pattern).indices) ≡ c.args.pattern.length
  sized = indices-length c.args.pattern.marks c.args.pattern.width c.args.table_s.now c.args.pattern.length c.args.pattern.indices

  -- no sample uses a position from the count on
  nothing-behind : (i : ℕ) → min c.args.pattern.length c.args.pattern.count ≤ i → (best_behind (distance_in c.args.grouping_type c.args.s.now) c.args.wanted c.args.start c.args.pattern.count c.args.pattern.length ((pattern_in c.args.table_s.now c.args.pattern).indices)) i ≡ none
  nothing-behind i h = best-end (distance_in c.args.grouping_type c.args.s.now) c.args.wanted c.args.start c.args.pattern.count c.args.pattern.length ((pattern_in c.args.table_s.now c.args.pattern).indices) i (omega (arith, sized))

  -- the refusals of the pattern are those of its used indices
  refusals : first_refusal (meaning_in c.args.grouping_type c.args.s.now) (used (pattern_in c.args.table_s.now c.args.pattern)) ≡ first_refusal (meaning_in c.args.grouping_type c.args.s.now) (take (min c.args.pattern.length c.args.pattern.count) ((pattern_in c.args.table_s.now c.args.pattern).indices))
  refusals = ap (first_refusal (meaning_in c.args.grouping_type c.args.s.now)) (used-taken _ _ (min c.args.pattern.length c.args.pattern.count) refl)

-- where the index at position i has its distance
module _ (c : After-index_distance) where
  here : c.index_at-index.result.0 ≡ get_or ((pattern_in c.args.table_s.now c.args.pattern).indices) c.loop-i.i 0
  here = c.index_at-index.ensures

  below : c.loop-i.i < length ((pattern_in c.args.table_s.now c.args.pattern).indices)
  below =
      let sized = indices-length c.args.pattern.marks c.args.pattern.width c.args.table_s.now c.args.pattern.length c.args.pattern.indices in
      omega (arith, sized, c.loop-i-test.true)

pub loop-i-init : goal.loop-i-init
loop-i-init c =
    let p = c.args.pattern in
    let indices = (pattern_in c.args.table_s.now p).indices in
    let none_yet : min 0 p.count ≡ 0 = omega arith in
    (omega arith, rw none_yet (passed_none (meaning_in c.args.grouping_type c.args.s.now) indices), refl)

pub index_at-index-requires : goal.index_at-index-requires
index_at-index-requires c = (c.requires.0, c.loop-i-test.true)

pub index_distance-requires : goal.index_distance-requires
index_distance-requires c =
    (c.requires.1, c.requires.2)

pub best_at-requires : goal.best_at-requires
best_at-requires c =
    (c.requires.3, c.requires.4, omega (arith, sized (goal.at.best_at-requires c).At-loop-i, below (goal.at.best_at-requires c).After-index_distance))

pub loop-i-preserved : goal.loop-i-preserved
loop-i-preserved c =
    let has = distance-given ((meaning_in c.args.grouping_type c.args.s.now) c.index_at-index.result.0) (rw c.in-Ok.is at c.index_distance.ensures) in
    let own = c.best_at.ensures
    ∙ ap (best_at c.args.wanted c.args.start c.args.pattern.count c.args.pattern.length c.loop-i.i) (sym has.1 ∙ ap (distance_in c.args.grouping_type c.args.s.now) (here (goal.at.loop-i-preserved c).After-index_distance)) in
    let grown = ap told_latest c.max-latest.ensures ∙ larger-told c.loop-i.latest c.best_at.result in
    let step = best-step (distance_in c.args.grouping_type c.args.s.now) c.args.wanted c.args.start c.args.pattern.count c.args.pattern.length ((pattern_in c.args.table_s.now c.args.pattern).indices) c.loop-i.i (below (goal.at.loop-i-preserved c).After-index_distance) in (
      omega (arith, c.loop-i-test.true),
      passed-used (meaning_in c.args.grouping_type c.args.s.now) ((pattern_in c.args.table_s.now c.args.pattern).indices) c.args.pattern.count c.loop-i.i (below (goal.at.loop-i-preserved c).After-index_distance) c.loop-i.invariant.1 (λ u. (has.0.0, ap (meaning_in c.args.grouping_type c.args.s.now) (sym (here (goal.at.loop-i-preserved c).After-index_distance)) ∙ has.0.1)),
      c.loop-i.invariant.2
          ∙ ap (λ (o : Option ℕ). larger (told_latest c.loop-i.latest) o) step
          ∙ sym (larger_assoc (told_latest c.loop-i.latest) _ ((best_behind (distance_in c.args.grouping_type c.args.s.now) c.args.wanted c.args.start c.args.pattern.count c.args.pattern.length ((pattern_in c.args.table_s.now c.args.pattern).indices)) (c.loop-i.i + 1)))
          ∙ ap (λ (o : Option ℕ). larger o ((best_behind (distance_in c.args.grouping_type c.args.s.now) c.args.wanted c.args.start c.args.pattern.count c.args.pattern.length ((pattern_in c.args.table_s.now c.args.pattern).indices)) (c.loop-i.i + 1)))
          (ap (λ (o : Option ℕ). larger (told_latest c.loop-i.latest) o) (sym own) ∙ sym grown),
    )

pub returns-then-i-count : goal.returns-then-i-count
returns-then-i-count c =
    let code = distance-refused ((meaning_in c.args.grouping_type c.args.s.now) c.index_at-index.result.0) (rw c.in-Err.is at c.index_distance.ensures) in
    let e : min c.loop-i.i c.args.pattern.count ≡ c.loop-i.i = omega (arith, c.if-i-count.true) in
    let first = refusals (goal.at.returns-then-i-count c).At-loop-i
    ∙ refused-here (meaning_in c.args.grouping_type c.args.s.now) ((pattern_in c.args.table_s.now c.args.pattern).indices) c.loop-i.i (min c.args.pattern.length c.args.pattern.count) (below (goal.at.returns-then-i-count c).After-index_distance) (omega (arith, c.if-i-count.true, c.loop-i-test.true)) (rw e at c.loop-i.invariant.1) (ap (meaning_in c.args.grouping_type c.args.s.now) (sym (here (goal.at.returns-then-i-count c).After-index_distance)) ∙ code) in
    rw first refl

pub loop-i-preserved-in-Err : goal.loop-i-preserved-in-Err
loop-i-preserved-in-Err c =
    let over : c.args.pattern.count ≤ c.loop-i.i = omega (arith, c.if-i-count.false) in (
      omega (arith, c.loop-i-test.true),
      passed-used (meaning_in c.args.grouping_type c.args.s.now) ((pattern_in c.args.table_s.now c.args.pattern).indices) c.args.pattern.count c.loop-i.i (below (goal.at.loop-i-preserved-in-Err c).After-index_distance) c.loop-i.invariant.1 (λ u. absurd (omega (arith, over, u))),
      c.loop-i.invariant.2
          ∙ ap (λ (o : Option ℕ). larger (told_latest c.loop-i.latest) o)
          (nothing-behind (goal.at.loop-i-preserved-in-Err c).At-loop-i c.loop-i.i (omega (arith, over)) ∙ sym (nothing-behind (goal.at.loop-i-preserved-in-Err c).At-loop-i (c.loop-i.i + 1) (omega (arith, over)))),
    )

pub returns : goal.returns
returns c =
    let e : c.loop-i.i ≡ c.args.pattern.length = omega (arith, c.loop-i.invariant.0, c.loop-i-test.false) in
    let first = refusals (goal.at.returns c).At-loop-i ∙ (rw e at c.loop-i.invariant.1) in
    let last = nothing-behind (goal.at.returns c).At-loop-i c.loop-i.i (omega (arith, e)) in
    rw (first, sized (goal.at.returns c).At-loop-i, c.loop-i.invariant.2, last, larger-none (told_latest c.loop-i.latest)) refl
