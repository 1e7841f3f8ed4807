-- What rules 2 to 5 ask of samples in order, gathered without a step for each sample.
use Rattle.std.specs.Prelude.{ℕ, ◌+◌, ◌≤◌, Bool, true, false, ◌&&◌, List, [], ◌∷◌, eqb, leb}
use Rattle.base_fields.specs.Answer as answer
use Rattle.base_fields.specs.Answer.{Answer, given, refused, choose}
use Rattle.table_rows.specs.Pattern.{Pattern}
use Rattle.table_views.specs.Used.{used}
use Rattle.table_views.specs.Stretches.{Summary, whole, summary, summary_of, no_samples_of, join, step}
use Rattle.group_entries.specs.Decoded.{Decoded, roll_of, rap_of, tele_of, sap_of, rash_of, alst_of, raw_of}
use Rattle.listing_theorem.specs.Meaning.{Meaning, outside, missing, value}
use Rattle.listing_theorem.specs.Samples.{meaning_of}
use Rattle.listing_meanings.specs.Meant.{meaning_in}
use Rattle.use_profile.specs.Profile.{t, Verdict, meets, breaks}
use Rattle.use_profile.specs.declared.SampleKind.{SampleKind}
use Rattle.use_profile.specs.declared.SampleKind.TheVariants as kind
use Rattle.use_profile.specs.declared.Gaps.{Gaps}
use Rattle.use_profile.specs.declared.Seen.{Seen}

-- kind 2 is parted by what it says of its leading samples
abbrev pub kind_of_value : Decoded → SampleKind
kind_of_value (roll_of d) = kind.Unknown
kind_of_value (rap_of r) = choose r.known kind.Known kind.Unknown
kind_of_value (tele_of b) = kind.Unknown
kind_of_value (sap_of v) = kind.Unknown
kind_of_value (rash_of v points) = kind.Unknown
kind_of_value (alst_of v offsets pairs) = kind.Unknown
kind_of_value (raw_of bytes) = kind.Unknown

-- an index without a meaning is nowhere asked for: rule 1 comes first
abbrev pub kind_told : Answer Meaning → SampleKind
kind_told (given outside) = kind.Outside
kind_told (given missing) = kind.Missing
kind_told (given (value v)) = kind_of_value v
kind_told answer.none = kind.Unknown
kind_told (refused n) = kind.Unknown

-- of an index, by the sgpd's entries
abbrev pub kind_by : List (List ℕ) → ℕ → SampleKind
kind_by entries i = kind_told (meaning_of t entries i)

-- and from the sgpd's payload s
abbrev pub kind_in : List ℕ → ℕ → SampleKind
kind_in s i = kind_told (meaning_in t s i)

-- kinds 0 and 1 together
abbrev pub is_gap : SampleKind → Bool
is_gap kind.Outside = true
is_gap kind.Missing = true
is_gap kind.Known = false
is_gap kind.Unknown = false

-- nothing that rule 4 forbids
abbrev pub is_known : SampleKind → Bool
is_known kind.Outside = true
is_known kind.Missing = true
is_known kind.Known = true
is_known kind.Unknown = false

-- nothing that rule 5 forbids
abbrev pub is_found : SampleKind → Bool
is_found kind.Outside = true
is_found kind.Missing = false
is_found kind.Known = true
is_found kind.Unknown = true

-- stretches of kinds 0 and 1, whether nothing breaks rule 4, and whether nothing breaks rule 5
pub record Survey : Type 0 where
  pub gaps : Summary
  pub known : Bool
  pub found : Bool

-- of samples with these indices, where f gives the kind of an index
unfoldable pub survey : (ℕ → SampleKind) → List ℕ → Survey
survey f l = record { gaps = summary (λ i. is_gap (f i)) l; known = whole (λ i. is_known (f i)) l; found = whole (λ i. is_found (f i)) l }

-- of no samples
abbrev pub nothing_seen : Survey
nothing_seen = record { gaps = no_samples_of; known = true; found = true }

-- of samples with one of this kind more at their end
abbrev pub survey_step : SampleKind → Survey → Survey
survey_step k x = record { gaps = step (is_gap k) x.gaps; known = x.known && is_known k; found = x.found && is_found k }

-- of some samples behind others
abbrev pub survey_join : Survey → Survey → Survey
survey_join a b = record { gaps = join a.gaps b.gaps; known = a.known && b.known; found = a.found && b.found }

-- of a pattern's samples, from its positions
unfoldable pub survey_of : (ℕ → SampleKind) → Pattern → Survey
survey_of f p = record { gaps = summary_of (λ i. is_gap (f i)) p; known = whole (λ i. is_known (f i)) (used p); found = whole (λ i. is_found (f i)) (used p) }

-- of a table's samples
unfoldable pub survey_in : (ℕ → SampleKind) → List Pattern → Survey
survey_in f [] = nothing_seen
survey_in f (p ∷ ps) = survey_join (survey_of f p) (survey_in f ps)

-- rule 2, where so many samples are covered
abbrev pub starts_by_number : ℕ → Summary → Bool
starts_by_number covered gaps = choose (eqb covered 0) false (eqb gaps.front 0)

-- rule 3
abbrev pub short_by : Summary → Bool
short_by gaps = leb gaps.longest 600

-- the first of rules 2 to 5 that does not hold
abbrev pub first_broken : Bool → Bool → Bool → Bool → Verdict
first_broken false short known found = breaks 2
first_broken true false known found = breaks 3
first_broken true true false found = breaks 4
first_broken true true true false = breaks 5
first_broken true true true true = meets

unfoldable pub verdict_by : ℕ → Survey → Verdict
verdict_by covered x = first_broken (starts_by_number covered x.gaps) (short_by x.gaps) x.known x.found

-- what the code holds
abbrev pub told_gaps : Gaps → Summary
told_gaps g = record { whole = g.whole; front = g.front; back = g.back; longest = g.longest }

abbrev pub told_seen : Seen → Survey
told_seen x = record { gaps = told_gaps x.gaps; known = x.known; found = x.found }

-- no number of these is over n
pub record AtMost (n : ℕ) (g : Gaps) : Type 0 where
  pub front : g.front ≤ n
  pub back : g.back ≤ n
  pub longest : g.longest ≤ n

-- the largest number of 64 bits
abbrev pub largest : ℕ
largest = 18446744073709551615

-- no sum passes it where one stands behind the other
pub record Fit (a b : Gaps) : Type 0 where
  pub front : a.front + b.front ≤ largest
  pub back : b.back + a.back ≤ largest
  pub across : a.back + b.front ≤ largest
