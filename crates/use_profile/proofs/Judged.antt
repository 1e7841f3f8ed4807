-- The verdict from the stages is the first rule broken.
use mathlib.Core.Path.{◌≡◌, refl, sym, subst, ◌∙◌}
use mathlib.Core.Bool.{Bool, true, false, true≢false, false≢true}
use Prim.Native.Nat.{ℕ, zero, suc, ◌<◌}
use native.Mathlib.Decide.{dec_lt}
use native.Mathlib.Omega.{arith}
use borrow.Author.Tests.{leb-true, leb-false, eqb-false, eqb-true}
use mathlib.Core.List.{List}
use lib.Dec.{eqb}
use lib.ListN.{length}
use Rattle.base_fields.specs.Answer as answer
use Rattle.base_fields.specs.Answer.{Answer, given, refused, choose}
use Rattle.base_fields.proofs.Answers.{refused-given}
use Rattle.table_rows.proofs.Samples.{covered_by-samples}
use Rattle.table_needed.specs.Needed.{unlimited}
use Rattle.table_views.specs.Stretches.{summary}
use Rattle.listing_spec.specs.Group.{Group, group_taken}
use Rattle.listing_spec.proofs.Stages.{Stages}
use Rattle.use_profile.specs.Profile.{t, Listed, StartsInside, Rule, Judges, breaks}
use Rattle.use_profile.specs.Survey.{Survey, survey, starts_by_number, short_by, first_broken, verdict_by}
use Rattle.use_profile.specs.From.{Surveyed, surveyed_from, surveyed_in, verdict_of}
use Rattle.use_profile.proofs.Listed.{Surveys, surveys, surveyed-listed, listed-surveyed}
use Rattle.use_profile.proofs.Samples.{indices, kind_at, starts, starts-not, starts_none, short, long, all_known, known-all, all_found, found_all}
use Rattle.use_profile.proofs.Laws.{meets_exactly}

positive : (m : ℕ) → (m ≡ 0 → ⊥) → 0 < m
positive zero z = absurd (z refl)
positive (suc m) z = omega arith

module _ (s : List ℕ) where
  -- the rules before a number
  abbrev Before : ℕ → Type 0
  Before n = (m : ℕ) → m < n → Rule m s

  before_1 : Before 1
  before_1 zero h = tt
  before_1 (suc m) h = absurd (omega (arith, h))

  and-rule : {n : ℕ} → Before n → Rule n s → Before (suc n)
  and-rule {n} b r m h =
      elim (dec_lt m n) [
        | yes k ↦ b m k
        | no k ↦ let e : n ≡ m = omega (arith, h, k) in subst (λ (i : ℕ). Rule i s) e r
      ]

  -- rules 2 to 5, where rule 1 holds
  module _ (a : Listed s) (x : Stages s t unlimited) where
    abbrev seen : Survey
    seen = survey (kind_at s x) (indices s x)

    abbrev n : ℕ
    n = length (indices s x)

    starts_by : starts_by_number n seen.gaps ≡ true → StartsInside s
    unfolding survey summary
    starts_by e = by (eqb n 0) refl e
      where
        by : (b : Bool) → eqb n 0 ≡ b → choose b false (eqb seen.gaps.front 0) ≡ true → StartsInside s
        by true z e = absurd (false≢true e)
        by false z e = starts s x (positive n (eqb-false n 0 z)) (eqb-true _ _ e)

    starts-not-by : starts_by_number n seen.gaps ≡ false → StartsInside s → ⊥
    unfolding survey summary
    starts-not-by e = by (eqb n 0) refl e
      where
        by : (b : Bool) → eqb n 0 ≡ b → choose b false (eqb seen.gaps.front 0) ≡ false → StartsInside s → ⊥
        by true z e = starts_none s x (eqb-true n 0 z)
        by false z e = starts-not s x (positive _ (eqb-false _ _ e))

    by-rules : (b₂ b₃ b₄ b₅ : Bool) → starts_by_number n seen.gaps ≡ b₂ → short_by seen.gaps ≡ b₃ → seen.known ≡ b₄ → seen.found ≡ b₅
        → Judges s (first_broken b₂ b₃ b₄ b₅)
    unfolding survey summary
    by-rules false b₃ b₄ b₅ e f g h = (starts-not-by e, and-rule before_1 a)
    by-rules true false b₄ b₅ e f g h = (long s x (leb-false _ _ f), and-rule (and-rule before_1 a) (starts_by e))
    by-rules true true false b₅ e f g h = (
      λ r. true≢false (sym (known-all s x r) ∙ g),
      and-rule (and-rule (and-rule before_1 a) (starts_by e)) (short s x (leb-true _ _ f)),
    )
    by-rules true true true false e f g h = (
      λ r. true≢false (sym (found_all s x r) ∙ h),
      and-rule (and-rule (and-rule (and-rule before_1 a) (starts_by e)) (short s x (leb-true _ _ f))) (all_known s x g),
    )
    by-rules true true true true e f g h = (meets_exactly s).1 (a, starts_by e, short s x (leb-true _ _ f), all_known s x g, all_found s x h)

    judged-seen : Judges s (verdict_by n seen)
    unfolding verdict_by
    judged-seen = by-rules (starts_by_number n seen.gaps) (short_by seen.gaps) seen.known seen.found refl refl refl refl

  judged-given : {y : Surveyed} → Surveys s y → Judges s (verdict_by y.covered y.seen)
  judged-given v =
      let x = v.stages in
      rw (v.is, covered_by-samples x.group.patterns) (judged-seen (surveyed-listed s v) x)

  pub judged : Judges s (verdict_of (surveyed_in s))
  judged = by (surveyed_in s) refl
    where
      by : (a : Answer Surveyed) → surveyed_in s ≡ a → Judges s (verdict_of a)
      by (given y) e = judged-given (surveys s e)
      by answer.none e = (λ l. none-given (sym e ∙ (listed-surveyed s l).1), before_1)
        where
          none-given : {y : Surveyed} → ◌≡◌ {A = Answer Surveyed} answer.none (given y) → ⊥
          none-given e = let z : ◌≡◌ {A = ℕ} 0 1 = cc in omega arith
      by (refused n) e = (λ l. refused-given (sym e ∙ (listed-surveyed s l).1), before_1)

  -- by the group: it is not opened, or what follows it is surveyed
  pub group-refused : {n : ℕ} → group_taken s t unlimited ≡ refused n → Judges s (breaks 1)
  unfolding surveyed_in
  group-refused {n} e = let told : surveyed_in s ≡ refused n = rw e refl in subst (λ (a : Answer Surveyed). Judges s (verdict_of a)) told judged

  pub group-judged : {g : Group} → group_taken s t unlimited ≡ given g → Judges s (verdict_of (surveyed_from g))
  unfolding surveyed_in
  group-judged {g} e = let told : surveyed_in s ≡ surveyed_from g = rw e refl in subst (λ (a : Answer Surveyed). Judges s (verdict_of a)) told judged
