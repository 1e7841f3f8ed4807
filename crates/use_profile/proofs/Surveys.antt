-- What is seen of samples: of one more, of some behind others, of a pattern by its positions, of a table by its patterns.
use mathlib.Core.Path.{◌≡◌, refl, ◌∙◌}
use Prim.Native.Nat.{ℕ, ◌<◌}
use mathlib.Core.List.{List, [], ◌∷◌, ◌++◌}
use lib.ListN.{length}
use Rattle.table_rows.specs.Pattern.{Pattern, samples_from, samples_of}
use Rattle.table_views.specs.Used.{Filled}
use Rattle.table_views.specs.Stretches.{whole}
use Rattle.table_views.proofs.Stretches.{summary_append, summary-empty}
use Rattle.table_views.proofs.Steps.{summary-step}
use Rattle.table_views.proofs.Summaries.{summary-pattern}
use Rattle.table_views.proofs.Whole.{whole_append, whole-one, whole-pattern}
use Rattle.use_profile.specs.Survey.{survey, nothing_seen, survey_step, survey_join, survey_of, survey_in, is_gap, is_known, is_found}
use Rattle.use_profile.specs.declared.SampleKind.{SampleKind}

module _ (f : ℕ → SampleKind) where
  pub survey-empty : survey f [] ≡ nothing_seen
  unfolding survey whole
  survey-empty = rw (summary-empty (λ i. is_gap (f i))) refl

  -- one sample more
  pub survey-step : (l : List ℕ) (i : ℕ) → survey f (l ++ i ∷ []) ≡ survey_step (f i) (survey f l)
  unfolding survey
  survey-step l i =
      rw (summary-step (λ j. is_gap (f j)) l i, whole-one (λ j. is_known (f j)) l i, whole-one (λ j. is_found (f j)) l i) refl

  -- some samples behind others
  pub survey_append : (a b : List ℕ) → survey f (a ++ b) ≡ survey_join (survey f a) (survey f b)
  unfolding survey
  survey_append a b =
      rw (summary_append (λ j. is_gap (f j)) a b, whole_append (λ j. is_known (f j)) a b, whole_append (λ j. is_found (f j)) a b) refl

  -- a pattern's samples, by its positions: two periods decide its stretches
  pub survey-pattern : (p : Pattern) → 0 < length p.indices → survey f (samples_from p 0 p.count) ≡ survey_of f p
  unfolding survey survey_of
  survey-pattern p h =
      rw (summary-pattern (λ j. is_gap (f j)) p h, whole-pattern (λ j. is_known (f j)) p h, whole-pattern (λ j. is_found (f j)) p h) refl

  -- a table's samples, by its patterns: stretches cross from one to the next
  pub survey-table : (ps : List Pattern) → Filled ps → survey f (samples_of ps) ≡ survey_in f ps
  unfolding samples_of survey_in
  survey-table [] h = survey-empty
  survey-table (p ∷ ps) h = survey_append (samples_from p 0 p.count) (samples_of ps) ∙ rw (survey-pattern p h.0, survey-table ps h.1) refl
