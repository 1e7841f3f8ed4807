-- The meanings of all samples are refused as the used positions are.
use mathlib.Core.Path.{◌≡◌, refl, ap, ◌∙◌}
use mathlib.Core.List.{List, [], ◌∷◌}
use Prim.Native.Nat.{ℕ}
use Rattle.base_fields.specs.Answer.{Answer, given, and_then}
use Rattle.base_fields.proofs.Answers.{and_then-same}
use Rattle.table_rows.specs.Pattern.{Pattern, samples_of}
use Rattle.table_views.specs.Used.{Filled, used_in, first_refusal, collect}
use Rattle.table_views.proofs.Collected.{collect-used}
use Rattle.listing_theorem.specs.Meaning.{Meaning}
use Rattle.listing_theorem.specs.Samples.{meaning_of, meanings}

module _ (t : ℕ) (entries : List (List ℕ)) where
  pub meanings-collect : (l : List ℕ) → meanings t entries l ≡ collect (meaning_of t entries) l
  unfolding meanings collect
  meanings-collect [] = refl
  meanings-collect (i ∷ l) = and_then-same (meaning_of t entries i) _ _ (λ m e. rw (meanings-collect l) refl)

  pub meanings-used : (ps : List Pattern) → Filled ps → and_then (meanings t entries (samples_of ps)) (λ ms. given tt) ≡ first_refusal (meaning_of t entries) (used_in ps)
  meanings-used ps h =
      ap (λ (x : Answer (List Meaning)). and_then x (λ ms. given tt)) (meanings-collect (samples_of ps)) ∙ collect-used (meaning_of t entries) ps h
