-- What a cue listing needs to be lent (beyond documents 01 and 02): s is the body of an stbl, t a grouping type.
use Rattle.std.specs.Prelude.{ℕ, suc, min, List, length}
use Rattle.base_fields.specs.Answer.{Answer, given, and_then}
use Rattle.base_fields.specs.Span.{bytes_at}
use Rattle.atom_path.specs.Path.{stbl_at}
use Rattle.table_rows.specs.Pattern.{samples_of}
use Rattle.table_needed.specs.Needed.{unlimited}
use Rattle.listing_theorem.specs.Samples.{meanings}
use Rattle.listing_theorem.specs.Listing.{listing}
use Rattle.listing_spec.specs.Group.{group_taken}
use Rattle.listing_stretches.specs.Entered.{output_limit}

-- records for the table's rows, and bytes of output
pub record Needed : Type 0 where
  pub rows : ℕ
  pub bytes : ℕ

-- no output is longer than `output_limit`: a listing that is longer needs one byte more than any output has
abbrev pub bytes_for : List ℕ → ℕ
bytes_for l = min (length l) (suc output_limit)

-- the answer of the listing where records and bytes never run out, so that neither 29 nor 54 can arise: the group's numbers, the decoders' in sample order
unfoldable pub needs_of_listing : List ℕ → ℕ → Answer Needed
needs_of_listing s t =
    and_then (group_taken s t unlimited) (λ group.
    and_then (meanings t group.entries (samples_of group.patterns)) (λ ms.
    given (record { rows = length group.rows; bytes = bytes_for (listing t ms) })))

-- of track n of a film: the search's refusals first (request A1 of document 02)
unfoldable pub file_listing_needs : List ℕ → ℕ → ℕ → Answer Needed
file_listing_needs s n t = and_then (stbl_at s n) (λ b. needs_of_listing (bytes_at s b) t)
