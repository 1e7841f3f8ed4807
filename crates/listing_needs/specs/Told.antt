-- The definition's answer for a call's result, and what follows the opening of a group.
use Rattle.std.specs.Prelude.{ℕ, suc, ◌≡◌, List, Option, Some, None, Result}
use Rattle.base_fields.specs.Answer.{Answer, given, and_then}
use Rattle.base_fields.specs.Refusal.{told}
use Rattle.base_fields.specs.declared.refusal.Refusal.{Refusal}
use Rattle.table_rows.specs.Pattern.{Pattern, samples_of}
use Rattle.table_runs.specs.Ahead.{all_in, ahead_in}
use Rattle.table_runs.specs.declared.SampleTable.{SampleTable}
use Rattle.listing_theorem.specs.Samples.{meanings}
use Rattle.listing_theorem.specs.Listing.{listing}
use Rattle.listing_spec.specs.Table.{entries_of}
use Rattle.listing_stretches.specs.Entered.{output_limit}
use Rattle.listing_needs.specs.Needs.{Needed, bytes_for}
use Rattle.listing_needs.specs.declared.ListingNeeds.{ListingNeeds}

abbrev pub needs_told : ListingNeeds → Needed
needs_told n = record { rows = n.rows; bytes = n.bytes }

abbrev pub told_needs : Result ListingNeeds Refusal → Answer Needed
told_needs = told needs_told

-- the decoders' refusals in sample order; the rows were counted before
unfoldable pub needed_by : ℕ → List (List ℕ) → List Pattern → ℕ → Answer Needed
needed_by t entries patterns rows = and_then (meanings t entries (samples_of patterns)) (λ ms. given (record { rows = rows; bytes = bytes_for (listing t ms) }))

-- of the patterns of this table's payload and the entries of this sgpd's payload s
pub record GivesNeeded (tables : List ℕ) (table : SampleTable) (s : List ℕ) (t rows : ℕ) (r : Result ListingNeeds Refusal) : Type 0 where
  pub gives : (entries : List (List ℕ)) → entries_of s ≡ given entries → told_needs r ≡ needed_by t entries (ahead_in tables table (all_in table)) rows

-- what a listing's measure tells of its bytes, where the limit is that of all outputs
abbrev pub measured_bytes : Option ℕ → ℕ
measured_bytes (Some n) = n
measured_bytes None = suc output_limit
