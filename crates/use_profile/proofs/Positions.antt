-- Rules 2 to 5 asked of a table's patterns and their positions, where the listing's stages give something.
use mathlib.Core.Path.{◌≡◌, refl, ap, sym, ◌∙◌}
use mathlib.Core.Bool.{true}
use mathlib.Core.Logic.{◌↔◌}
use mathlib.Core.List.{List}
use Prim.Native.Nat.{ℕ, zero, suc, ◌≤◌, ◌<◌}
use native.Mathlib.Decide.{dec_lt}
use native.Mathlib.Omega.{arith}
use Rattle.table_rows.specs.Pattern.{covered_by}
use Rattle.table_rows.proofs.Samples.{covered_by-samples}
use Rattle.table_views.specs.Used.{Filled}
use Rattle.table_views.specs.Stretches.{front, longest, whole, summary}
use Rattle.listing_spec.proofs.Stages.{Stages}
use Rattle.use_profile.specs.Profile.{t, StartsInside, ShortGaps, LeadingKnown, NoneMissing}
use Rattle.use_profile.specs.Survey.{Survey, survey, survey_in, is_gap, is_known, is_found}
use Rattle.use_profile.proofs.Surveys.{survey-table}
use Rattle.use_profile.proofs.Samples.{indices, kind_at, covers, starts, starts-not, short, long, all_known, known-all, all_found, found_all}

zero_of : (n : ℕ) → (0 < n → ⊥) → n ≡ 0
zero_of zero f = refl
zero_of (suc n) f = absurd (f (omega arith))

module _ (s : List ℕ) {room : ℕ} (x : Stages s t room) (filled : Filled x.group.patterns) where
  abbrev pub by_patterns : Survey
  by_patterns = survey_in (kind_at s x) x.group.patterns

  same : survey (kind_at s x) (indices s x) ≡ by_patterns
  same = survey-table (kind_at s x) x.group.patterns filled

  front_same : front (λ i. is_gap (kind_at s x i)) (indices s x) ≡ by_patterns.gaps.front
  unfolding survey summary
  front_same = ap (λ (y : Survey). y.gaps.front) same

  longest-same : longest (λ i. is_gap (kind_at s x i)) (indices s x) ≡ by_patterns.gaps.longest
  unfolding survey summary
  longest-same = ap (λ (y : Survey). y.gaps.longest) same

  known_same : whole (λ i. is_known (kind_at s x i)) (indices s x) ≡ by_patterns.known
  unfolding survey
  known_same = ap (λ (y : Survey). y.known) same

  found-same : whole (λ i. is_found (kind_at s x i)) (indices s x) ≡ by_patterns.found
  unfolding survey
  found-same = ap (λ (y : Survey). y.found) same

  pub rule_2 : StartsInside s ↔ ((0 < covered_by x.group.patterns) × (by_patterns.gaps.front ≡ 0))
  rule_2 = (
    λ k. (
      omega (arith, covered_by-samples x.group.patterns, covers s x, k.means.covered),
      sym front_same ∙ zero_of _ (λ h. starts-not s x h k),
    ),
    λ p. starts s x (omega (arith, covered_by-samples x.group.patterns, p.0)) (front_same ∙ p.1),
  )

  pub rule_3 : ShortGaps s ↔ (by_patterns.gaps.longest ≤ 600)
  rule_3 = (
    λ r. elim (dec_lt 600 (longest (λ i. is_gap (kind_at s x i)) (indices s x))) [
      | yes h ↦ absurd (long s x h r)
      | no h ↦ omega (arith, longest-same, h)
    ],
    λ h. short s x (omega (arith, longest-same, h)),
  )

  pub rule_4 : LeadingKnown s ↔ (by_patterns.known ≡ true)
  rule_4 = (λ r. sym known_same ∙ known-all s x r, λ e. all_known s x (known_same ∙ e))

  pub rule_5 : NoneMissing s ↔ (by_patterns.found ≡ true)
  rule_5 = (λ r. sym found-same ∙ found_all s x r, λ e. all_found s x (found-same ∙ e))
