use mathlib.Core.Path.{◌≡◌, refl, ap, sym, subst, ◌∙◌}
use mathlib.Core.List.{List}
use mathlib.Core.Option.{Option}
use Prim.Native.Nat.{ℕ, ◌+◌, ◌-◌, min}
use native.Mathlib.Numerals.{add-one}
use native.Mathlib.Omega.{arith}
use Rattle.std.proofs.lemmas.Result.{err_from_is_err_and}
use Rattle.base_fields.specs.Answer.{Answer}
use Rattle.table_rows.specs.Pattern.{Pattern}
use Rattle.table_patterns.specs.Place.{pattern_in, Stands}
use Rattle.table_patterns.specs.declared.PatternAt.{PatternAt}
use Rattle.table_views.specs.Used.{cut}
use Rattle.table_runs.specs.Ahead.{ahead_in, Step}
use Rattle.use_decode_start.specs.Inner.{told_latest, told_search, cut_place, searched_pattern, searched_on}
use Rattle.use_decode_start.proofs.Searching.{search-on, search-refused, search-end, search-stop}
use Rattle.use_decode_start.proofs.search.search_table.Goals as goal
use Rattle.use_decode_start.proofs.search.search_table.Goals.{After-search_pattern, At-loop-left, In-Some}

-- at the loop's head
module _ (c : At-loop-left) where
  -- the search of the patterns ahead, from sample k on, with n samples left
  abbrev search_from : ℕ → ℕ → Option ℕ → List Pattern → Answer (Option ℕ)
  search_from k n before ps = searched_on c.args.grouping_type c.args.s.now c.args.wanted k before (cut n ps)

-- the first pattern ahead
module _ (c : In-Some) where
  step : Step c.args.table_s.now c.args.table c.loop-left.here c.in-Some.pattern c.in-Some.behind
  step = rw c.in-Some.is at c.next_pattern.ensures

-- where its first samples are searched
module _ (c : After-search_pattern) where
  counted : min c.loop-left.left c.in-Some.pattern.count ≡ c.cut_pattern-piece.result.count
  counted = sym (ap (λ (p : PatternAt). p.count) c.cut_pattern-piece.ensures)

  searched : told_search c.search_pattern.result
      ≡ searched_pattern c.args.grouping_type c.args.s.now c.args.wanted c.loop-left.start (told_latest c.loop-left.latest)
      (pattern_in c.args.table_s.now (cut_place c.loop-left.left c.in-Some.pattern))
  searched =
      c.search_pattern.ensures
      ∙ ap (λ (p : PatternAt). searched_pattern c.args.grouping_type c.args.s.now c.args.wanted c.loop-left.start (told_latest c.loop-left.latest) (pattern_in c.args.table_s.now p))
      c.cut_pattern-piece.ensures

pub loop-left-init : goal.loop-left-init
loop-left-init c =
    (rw c.first_pattern-here.ensures c.requires.0, omega arith, rw (c.first_pattern-here.ensures, add-one) refl)

pub next_pattern-requires : goal.next_pattern-requires
next_pattern-requires c = c.loop-left.invariant.0

pub search_pattern-requires : goal.search_pattern-requires
search_pattern-requires c =
    let st = (step (goal.at.search_pattern-requires c).In-Some).stands in
    let stands = subst (λ (p : PatternAt). Stands c.args.table_s.now p) (sym c.cut_pattern-piece.ensures)
    (record { wide = st.wide; narrow = st.narrow; some = st.some; late = st.late; inside = st.inside; short = st.short }) in
    (stands, c.requires.1, c.requires.2, c.requires.3, omega (arith, c.loop-left.invariant.1, c.requires.3))

pub overflow_sub-left : goal.overflow_sub-left
overflow_sub-left c = omega (arith, counted (goal.at.overflow_sub-left c).After-search_pattern)

pub overflow_add-start : goal.overflow_add-start
overflow_add-start c =
    omega (arith, counted (goal.at.overflow_add-start c).After-search_pattern, c.loop-left.invariant.1, c.requires.3)

pub loop-left-smaller : goal.loop-left-smaller
loop-left-smaller c = (step (goal.at.loop-left-smaller c).In-Some).fewer

pub loop-left-preserved : goal.loop-left-preserved
loop-left-preserved c =
    let told = sym (ap told_search c.in_ok-best-in-Some.was) ∙ searched (goal.at.loop-left-preserved c).After-search_pattern in
    let b = told_latest c.in_ok-best-in-Some.best in
    let p = c.in-Some.pattern in
    let rest = ahead_in c.args.table_s.now c.args.table c.in-Some.behind in
    let n = c.cut_pattern-piece.result.count in
    let fewer : c.loop-left.left - p.count ≡ c.loop-left.left - n = omega (arith, counted (goal.at.loop-left-preserved c).After-search_pattern) in (
      (step (goal.at.loop-left-preserved c).In-Some).whole,
      omega (arith, counted (goal.at.loop-left-preserved c).After-search_pattern, c.loop-left.invariant.1),
      c.loop-left.invariant.2
          ∙ search-on c.args.grouping_type c.args.s.now c.args.wanted c.loop-left.start c.loop-left.left (told_latest c.loop-left.latest) (step (goal.at.loop-left-preserved c).In-Some).first told
          ∙ ap (λ (k : ℕ). search_from (goal.at.loop-left-preserved c).At-loop-left (c.loop-left.start + k) (c.loop-left.left - p.count) b rest) (counted (goal.at.loop-left-preserved c).After-search_pattern)
          ∙ ap (λ (k : ℕ). search_from (goal.at.loop-left-preserved c).At-loop-left (c.loop-left.start + n) k b rest) fewer,
    )

pub returns-in_err-best-in-Some : goal.returns-in_err-best-in-Some
returns-in_err-best-in-Some c =
    let told = sym (ap told_search c.in_err-best-in-Some.was) ∙ searched (goal.at.returns-in_err-best-in-Some c).After-search_pattern in
    let out = err_from_is_err_and c.from_residual.result c.from_residual.ensures.1 in
    rw (out.1, out.2)
    (sym (c.loop-left.invariant.2
    ∙ search-refused c.args.grouping_type c.args.s.now c.args.wanted c.loop-left.start c.loop-left.left (told_latest c.loop-left.latest) (step (goal.at.returns-in_err-best-in-Some c).In-Some).first told))

pub returns-in-None : goal.returns-in-None
returns-in-None c =
    let end = rw c.in-None.is at c.next_pattern.ensures in
    sym (c.loop-left.invariant.2
    ∙ search-end c.args.grouping_type c.args.s.now c.args.wanted c.loop-left.start c.loop-left.left (told_latest c.loop-left.latest) end)

pub returns : goal.returns
returns c =
    let ahead = ahead_in c.args.table_s.now c.args.table c.loop-left.here in
    let none : c.loop-left.left ≡ 0 = omega (arith, c.loop-left-test.false) in
    sym (c.loop-left.invariant.2
    ∙ ap (λ (k : ℕ). search_from (goal.at.returns c).At-loop-left c.loop-left.start k (told_latest c.loop-left.latest) ahead) none
    ∙ search-stop c.args.grouping_type c.args.s.now c.args.wanted c.loop-left.start (told_latest c.loop-left.latest) ahead)
