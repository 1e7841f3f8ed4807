-- Request A3 of document 02: where decoding begins for a frame. s is the body of an stbl, t the grouping type roll or "rap ", read as for the cue listing.
use Rattle.std.specs.Prelude.{ℕ, suc, ◌≡◌, List, leb, ℤ, pos, take}
use Rattle.std.proofs.Math.Option.{Option, none, some}
use Rattle.base_fields.specs.Answer as answer
use Rattle.base_fields.specs.Answer.{Answer, given, refused, refuse_if, and_then}
use Rattle.table_rows.specs.Pattern.{samples_of, covered_by}
use Rattle.table_needed.specs.Needed.{unlimited}
use Rattle.table_views.specs.Greatest.{Greatest}
use Rattle.table_views.specs.Search.{Begins}
use Rattle.table_views.specs.Used.{first_refusal}
use Rattle.group_entries.specs.Decoded.{Decoded, roll_of, rap_of, tele_of, sap_of, rash_of, alst_of, raw_of}
use Rattle.listing_theorem.specs.Meaning.{Meaning, outside, missing, value}
use Rattle.listing_theorem.specs.Samples.{meaning_of}
use Rattle.listing_spec.specs.Group.{Group, group_taken}

-- the distance of a value: a roll has its own; of a random access point begin and clean are the sample itself
abbrev pub distance_of_value : Decoded → Option ℤ
distance_of_value (roll_of d) = some d
distance_of_value (rap_of r) = some (pos 0)
distance_of_value (tele_of b) = none
distance_of_value (sap_of v) = none
distance_of_value (rash_of v points) = none
distance_of_value (alst_of v offsets pairs) = none
distance_of_value (raw_of bytes) = none

-- a member is a sample of kind 2
abbrev pub distance_of_meaning : Meaning → Option ℤ
distance_of_meaning outside = none
distance_of_meaning missing = none
distance_of_meaning (value v) = distance_of_value v

-- an index whose entry does not decode has none; behind the wanted frame that does not matter (the law `begins-up_to` of table_views)
abbrev pub distance_told : Answer Meaning → Option ℤ
distance_told (given m) = distance_of_meaning m
distance_told answer.none = none
distance_told (refused n) = none

unfoldable pub distance_of : ℕ → List (List ℕ) → ℕ → Option ℤ
distance_of t entries i = distance_told (meaning_of t entries i)

-- in order: the group's numbers, where records never run out, so that 29 cannot arise; 62 where the wanted frame is not covered; the decoders' own in sample
-- order, for each entry that a sample up to the wanted frame uses
unfoldable pub searched_to : List ℕ → ℕ → ℕ → Answer Group
searched_to s t wanted =
    and_then (group_taken s t unlimited) (λ group.
    refuse_if (leb (covered_by group.patterns) wanted) 62
    (and_then (first_refusal (meaning_of t group.entries) (take (suc wanted) (samples_of group.patterns))) (λ u. given group)))

-- b is the begin of a member, among all samples of the film, that is clean at or before the wanted frame
abbrev pub BeginsIn : ℕ → ℕ → Group → ℕ → Type 0
BeginsIn t wanted group b = Begins (distance_of t group.entries) wanted (samples_of group.patterns) b

-- an accepted answer: the greatest such begin, or none, where there is no such begin at all
pub record Starts (s : List ℕ) (t wanted : ℕ) (found : Option ℕ) : Type 0 where
  pub group : Group
  pub told : searched_to s t wanted ≡ given group
  pub greatest : Greatest (BeginsIn t wanted group) found

-- what a call answers
abbrev pub GivesStart : List ℕ → ℕ → ℕ → Answer ℕ → Type 0
GivesStart s t wanted (given b) = Starts s t wanted (some b)
GivesStart s t wanted answer.none = Starts s t wanted none
GivesStart s t wanted (refused n) = searched_to s t wanted ≡ refused n
