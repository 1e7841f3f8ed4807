-- The meanings of a table's samples, once all of them decode: by the meaning of each index.
use mathlib.Core.Path.{◌≡◌, ap, sym, ◌∙◌}
use mathlib.Core.List.{List, [], ◌∷◌}
use Prim.Native.Nat.{ℕ, ◌+◌, ◌-◌}
use native.Mathlib.Omega.{arith}
use lib.ListN.{get_or}
use borrow.Author.Tests.{lt-ltb, le-ltb}
use Rattle.base_fields.specs.Answer.{given, and_then}
use Rattle.base_fields.proofs.Answers.{given_inj, given-first}
use Rattle.table_rows.specs.Pattern.{Pattern, samples_of, covered_by, index_of}
use Rattle.table_rows.proofs.Samples.{covered_by-samples, index_of-samples}
use Rattle.listing_theorem.specs.Meaning.{Meaning, outside}
use Rattle.listing_theorem.specs.Samples.{meaning_of, meanings}
use Rattle.listing_theorem.proofs.Samples.{meanings-told}
use Rattle.listing_spec.specs.Table.{entries_of}
use Rattle.listing_meanings.specs.Meant.{meaning_in}
use Rattle.listing_stretches.specs.Ahead.{meaning_or}
use Rattle.listing_stretches.specs.Entered.{meaning_by}
use Rattle.listing_measure.specs.Measured.{PatternMeans, AllMean, meanings_by}

module _ (t : ℕ) (s : List ℕ) {entries : List (List ℕ)} (read : entries_of s ≡ given entries) where
  meaning-in : (i : ℕ) → meaning_in t s i ≡ meaning_of t entries i
  meaning-in i = ap (λ a. and_then a (λ es. meaning_of t es i)) read

  pub meanings-by : (l : List ℕ) {ms : List Meaning} → meanings t entries l ≡ given ms → ms ≡ meanings_by t s l
  unfolding meanings
  meanings-by [] e = sym (given_inj e)
  meanings-by (i ∷ l) {ms} e =
      let a = given-first (meaning_of t entries i) _ e in
      let b = given-first (meanings t entries l) _ a.2 in
      let first : a.0 ≡ meaning_by t s i = ap meaning_or (sym (meaning-in i ∙ a.1)) in
      let rest = meanings-by l b.1 in
      sym (given_inj b.2) ∙ (λ j. first j ∷ rest j)

  pub all-mean : (ps : List Pattern) {ms : List Meaning} → meanings t entries (samples_of ps) ≡ given ms → AllMean t s ps
  all-mean ps {ms} e k h =
      let told = meanings-told t entries (samples_of ps) e in
      record {
        meaning = get_or ms k outside;
        given = meaning-in (index_of ps k) ∙ rw (index_of-samples ps k) (told.at k (omega (arith, covered_by-samples ps)));
      }

module _ (t : ℕ) (s : List ℕ) (p : Pattern) (ps : List Pattern) (all : AllMean t s (p ∷ ps)) where
  pub mean-first : PatternMeans t s p
  unfolding covered_by index_of
  mean-first k h = rw (lt-ltb k p.count h) at (all k (omega arith))

  pub mean-rest : AllMean t s ps
  unfolding covered_by index_of
  mean-rest k h =
      let j = p.count + k in
      let back : j - p.count ≡ k = omega arith in
      rw back at (rw (le-ltb j p.count (omega arith)) at (all j (omega arith)))
