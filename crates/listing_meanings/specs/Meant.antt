-- What an index means in an sgpd's payload s, as the code holds it, beside the meaning of document 01, part 8.
use Rattle.std.specs.Prelude.{ℕ, ◌+◌, ◌≤◌, ◌≡◌, Bool, true, false, List, Result, Ok, Err, length}
use Rattle.base_fields.specs.Answer.{Answer, given, refused, and_then}
use Rattle.base_fields.specs.Refusal.{number}
use Rattle.base_fields.specs.Span.{bytes_at, span_of}
use Rattle.base_fields.specs.declared.Part.{Part}
use Rattle.base_fields.specs.declared.refusal.Refusal.{Refusal}
use Rattle.base_ids.specs.declared.DescriptionIndex.{DescriptionIndex}
use Rattle.group_entries.specs.Layout.{decode}
use Rattle.table_rows.specs.Pattern.{Pattern}
use Rattle.table_views.specs.Used.{used, first_refusal}
use Rattle.listing_theorem.specs.Meaning.{Meaning, outside, missing, value}
use Rattle.listing_theorem.specs.Samples.{meaning_of}
use Rattle.listing_spec.specs.Table.{entries_of}
use Rattle.listing_meanings.specs.declared.MeaningAt.{MeaningAt}
use Rattle.listing_meanings.specs.declared.MeaningAt.TheVariants as at

abbrev pub entry_meaning : Part → MeaningAt
entry_meaning p = at.Entry p

-- for grouping type t: the entry's decoder may refuse
abbrev pub meant_at : ℕ → List ℕ → MeaningAt → Answer Meaning
meant_at t s at.Outside = given outside
meant_at t s at.Missing = given missing
meant_at t s (at.Entry p) = and_then (decode t (bytes_at s (span_of p))) (λ v. given (value v))

-- an entry lies within the payload
abbrev pub InsideAt : List ℕ → MeaningAt → Type 0
InsideAt s at.Outside = Unit
InsideAt s at.Missing = Unit
InsideAt s (at.Entry p) = p.place + p.size ≤ length s

-- r is what index i means, whatever the grouping type is
pub record GivesMeaning (s : List ℕ) (i : ℕ) (r : MeaningAt) : Type 0 where
  pub inside : InsideAt s r
  pub meant : (t : ℕ) (entries : List (List ℕ)) → entries_of s ≡ given entries → meant_at t s r ≡ meaning_of t entries i

-- m decodes
pub record Means (t : ℕ) (s : List ℕ) (m : MeaningAt) : Type 0 where
  pub inside : InsideAt s m
  pub meaning : Meaning
  pub given : meant_at t s m ≡ given meaning

-- whether two are the same
pub record GivesLike (t : ℕ) (s : List ℕ) (a b : MeaningAt) (r : Bool) : Type 0 where
  pub same : r ≡ true → meant_at t s a ≡ meant_at t s b
  pub different : r ≡ false → meant_at t s a ≡ meant_at t s b → ⊥

-- the meaning of an index in a payload: its refusals first
abbrev pub meaning_in : ℕ → List ℕ → ℕ → Answer Meaning
meaning_in t s i = and_then (entries_of s) (λ entries. meaning_of t entries i)

pub record HasMeaning (t : ℕ) (s : List ℕ) (i : ℕ) : Type 0 where
  pub meaning : Meaning
  pub given : meaning_in t s i ≡ given meaning

-- the used positions of a pattern: where all decode, the index that is handed back does
abbrev pub GivesChecked : ℕ → List ℕ → Pattern → Result DescriptionIndex Refusal → Type 0
GivesChecked t s p (Ok i) = (first_refusal (meaning_in t s) (used p) ≡ given tt) × HasMeaning t s i.0
GivesChecked t s p (Err e) = first_refusal (meaning_in t s) (used p) ≡ refused (number e)
