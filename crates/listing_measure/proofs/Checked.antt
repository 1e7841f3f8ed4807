-- What the check of the entries that samples use tells of the meanings of all samples, and of their listing.
use mathlib.Core.Path.{◌≡◌, ap, sym, ◌∙◌}
use mathlib.Core.List.{List}
use Prim.Native.Nat.{ℕ}
use Rattle.base_fields.specs.Answer.{given, refused, and_then}
use Rattle.base_fields.proofs.Answers.{given-first, refused-first}
use Rattle.table_rows.specs.Pattern.{Pattern, samples_of}
use Rattle.table_views.specs.Used.{used_in, first_refusal}
use Rattle.table_runs.specs.Ahead.{all_in, ahead_in, WholeIn}
use Rattle.table_runs.specs.declared.SampleTable.{SampleTable}
use Rattle.table_runs.proofs.Positions.{filled-ahead}
use Rattle.listing_theorem.specs.Meaning.{Meaning}
use Rattle.listing_theorem.specs.Samples.{meaning_of, meanings}
use Rattle.listing_theorem.specs.Listing.{listing}
use Rattle.listing_spec.specs.Table.{entries_of}
use Rattle.listing_meanings.proofs.Sampled.{meanings-used}
use Rattle.listing_measure.specs.Measured.{listing_of}
use Rattle.listing_measure.proofs.Meant.{meanings-by}

module _ (t : ℕ) (entries : List (List ℕ)) (ts : List ℕ) (tb : SampleTable) (whole : WholeIn ts tb (all_in tb)) where
  abbrev patterns : List Pattern
  patterns = ahead_in ts tb (all_in tb)

  used_all : and_then (meanings t entries (samples_of patterns)) (λ ms. given tt) ≡ first_refusal (meaning_of t entries) (used_in patterns)
  used_all = meanings-used t entries patterns (filled-ahead ts tb (all_in tb) whole)

  -- the check refuses
  pub meanings-refused : {n : ℕ} → refused n ≡ first_refusal (meaning_of t entries) (used_in patterns) → meanings t entries (samples_of patterns) ≡ refused n
  meanings-refused e = refused-first (meanings t entries (samples_of patterns)) (λ ms. tt) (used_all ∙ sym e)

  -- or passes
  pub check-passed : given tt ≡ first_refusal (meaning_of t entries) (used_in patterns) → (ms : List Meaning) × (meanings t entries (samples_of patterns) ≡ given ms)
  check-passed e = let g = given-first (meanings t entries (samples_of patterns)) (λ ms. given tt) (used_all ∙ sym e) in (g.0, g.1)

-- the listing of the meanings, by the payload of the sgpd
pub listing-by : (t : ℕ) (s : List ℕ) {entries : List (List ℕ)} → entries_of s ≡ given entries → (ps : List Pattern) {ms : List Meaning}
    → meanings t entries (samples_of ps) ≡ given ms → listing t ms ≡ listing_of t s ps
listing-by t s read ps meant = ap (listing t) (meanings-by t s read (samples_of ps) meant)
