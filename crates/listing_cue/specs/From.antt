-- The listing from a group: what follows its opening in document 01, part 8.
use Rattle.std.specs.Prelude.{ℕ, ◌≡◌, List, ltb, length, Result}
use Rattle.base_fields.specs.Answer.{Answer, given, refuse_if, and_then}
use Rattle.base_fields.specs.declared.refusal.Refusal.{Refusal}
use Rattle.table_rows.specs.Row.{Row, Table, records_in}
use Rattle.table_rows.specs.Pattern.{Pattern, samples_of}
use Rattle.table_records.specs.Lent.{table_from}
use Rattle.table_runs.specs.Ahead.{all_in, ahead_in}
use Rattle.table_runs.specs.declared.SampleTable.{SampleTable}
use Rattle.listing_theorem.specs.Samples.{meanings}
use Rattle.listing_theorem.specs.Listing.{listing}
use Rattle.listing_spec.specs.Table.{entries_of}
use Rattle.listing_spec.specs.Cue.{Cue}
use Rattle.listing_cue.specs.Told.{GivesCue}
use Rattle.listing_cue.specs.declared.CueLengths.{CueLengths}

-- the decoders in sample order, and last 54. (The law `group-listed` of proofs/Listed.antt: of the group that was opened, this is the listing of the body)
unfoldable pub listed_by : ℕ → List (List ℕ) → List Pattern → List Row → ℕ → Answer Cue
listed_by t entries patterns rows size =
    and_then (meanings t entries (samples_of patterns)) (λ ms.
    refuse_if (ltb size (length (listing t ms))) 54 (given (record { bytes = listing t ms; rows = rows })))

-- a call whose table and entries are read, and whose rows find records enough
pub record GivesListed (tables : List ℕ) (t : SampleTable) (s : List ℕ) (type : ℕ) (numbers numbers' out out' : List ℕ) (r : Result CueLengths Refusal) : Type 0 where
  pub gives : (x : Table) (entries : List (List ℕ)) → table_from tables t (records_in numbers) ≡ given x → entries_of s ≡ given entries
      → GivesCue (listed_by type entries (ahead_in tables t (all_in t)) x.rows (length out)) numbers numbers' out out' r
