use mathlib.Core.Path.{◌≡◌, ap, sym, ◌∙◌}
use mathlib.Core.List.{List}
use Prim.Native.Nat.{ℕ, ◌<◌}
use native.Mathlib.Omega.{arith}
use lib.ListN.{length, get_or, take}
use Rattle.base_fields.specs.Answer.{Answer}
use Rattle.base_fields.specs.Refusal.{told_value}
use Rattle.group_sgpd.proofs.Heads.{handed}
use Rattle.base_fields.proofs.Answers.{given-first, refused-first}
use Rattle.table_patterns.specs.Place.{pattern_in}
use Rattle.table_patterns.specs.declared.PatternAt.{PatternAt}
use Rattle.table_patterns.proofs.Indices.{indices-length}
use Rattle.table_views.specs.Used.{first_refusal}
use Rattle.listing_theorem.specs.Meaning.{Meaning}
use Rattle.listing_meanings.specs.Meant.{meaning_in}
use Rattle.listing_meanings.proofs.Checking.{passed_none, passed-more, refused-here, used-taken}
use Rattle.listing_meanings.proofs.check.check_pattern.Goals as goal
use Rattle.listing_meanings.proofs.check.check_pattern.Goals.{After-check_index, At-loop-i}

abbrev indices_of : List ℕ → PatternAt → List ℕ
indices_of s p = (pattern_in s p).indices

sized : (s : List ℕ) (p : PatternAt) → length (indices_of s p) ≡ p.length
sized s p = indices-length p.marks p.width s p.length p.indices

-- at the loop's head
module _ (c : At-loop-i) where
  abbrev meaning : ℕ → Answer Meaning
  meaning = meaning_in c.args.grouping_type c.args.s.now

  abbrev indices : List ℕ
  indices = indices_of c.args.table_s.now c.args.pattern

-- where the index at position i is checked
module _ (c : After-check_index) where
  abbrev index : ℕ
  index = c.index_at-index.result.0

  here : index ≡ get_or (indices_of c.args.table_s.now c.args.pattern) c.loop-i.i 0
  here = c.index_at-index.ensures

  below : c.loop-i.i < length (indices_of c.args.table_s.now c.args.pattern)
  below = omega (arith, sized c.args.table_s.now c.args.pattern, c.used_positions-used.ensures, c.loop-i-test.true)

pub loop-i-init : goal.loop-i-init
loop-i-init c =
    let indices = (pattern_in c.args.table_s.now c.args.pattern).indices in
    (passed_none (meaning_in c.args.grouping_type c.args.s.now) indices, c.requires.3)

pub index_at-index-requires : goal.index_at-index-requires
index_at-index-requires c =
    (c.requires.0, omega (arith, c.used_positions-used.ensures, c.loop-i-test.true))

pub check_index-requires : goal.check_index-requires
check_index-requires c =
    (c.requires.1, c.requires.2, c.loop-i.invariant.1)

pub loop-i-preserved : goal.loop-i-preserved
loop-i-preserved c =
    let l = (goal.at.loop-i-preserved c).At-loop-i in
    let has = given-first (meaning l (index (goal.at.loop-i-preserved c).After-check_index)) _ (sym (ap told_value (sym c.in_ok-check_index.was) ∙ c.check_index.ensures)) in (
      passed-more (meaning l) (indices l) c.loop-i.i (below (goal.at.loop-i-preserved c).After-check_index) c.loop-i.invariant.0 (ap (meaning l) (sym (here (goal.at.loop-i-preserved c).After-check_index)) ∙ has.1),
      record { meaning = has.0; given = has.1 },
    )

pub returns-in_err-check_index : goal.returns-in_err-check_index
returns-in_err-check_index c =
    let l = (goal.at.returns-in_err-check_index c).At-loop-i in
    let used = c.used_positions-used in
    let code = refused-first (meaning l (index (goal.at.returns-in_err-check_index c).After-check_index)) (λ v. tt) (sym (ap told_value (sym c.in_err-check_index.was) ∙ c.check_index.ensures)) in
    rw (handed c.from_residual.ensures) (ap (first_refusal (meaning l)) (used-taken _ _ used.result used.ensures)
    ∙ refused-here (meaning l) (indices l) c.loop-i.i used.result (below (goal.at.returns-in_err-check_index c).After-check_index) c.loop-i-test.true c.loop-i.invariant.0 (ap (meaning l) (sym (here (goal.at.returns-in_err-check_index c).After-check_index)) ∙ code))

pub returns : goal.returns
returns c =
    let used = c.used_positions-used in
    let e : used.result ≡ c.loop-i.i = omega (arith, c.loop-i-test.false) in
    (ap (first_refusal (meaning (goal.at.returns c).At-loop-i)) (used-taken _ _ used.result used.ensures ∙ ap (λ (n : ℕ). take n (indices (goal.at.returns c).At-loop-i)) e) ∙ c.loop-i.invariant.0, c.loop-i.invariant.1)
