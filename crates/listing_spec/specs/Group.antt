-- Part 8 of document 01: the group of a grouping type t in the body s of an stbl. The cue listing, and what else works over a group, opens it so.
use Rattle.std.specs.Prelude.{ℕ, List}
use Rattle.base_fields.specs.Answer.{Answer, given, and_then}
use Rattle.table_rows.specs.Row.{Row}
use Rattle.table_rows.specs.Pattern.{Pattern}
use Rattle.listing_spec.specs.Walk.{sources}
use Rattle.listing_spec.specs.Table.{taken_table, entries_taken}

-- what a body holds of the grouping type: the taken table's patterns and its rows, and the taken sgpd's entries
pub record Group : Type 0 where
  pub patterns : List Pattern
  pub rows : List Row
  pub entries : List (List ℕ)

-- in order: the walk's numbers, 50, 52; the table's, which is read once: its structure (20 to 27), then its rows, entered where `room` records are lent
-- (28, 29); the sgpd's
unfoldable pub group_taken : List ℕ → ℕ → ℕ → Answer Group
group_taken s t room =
    and_then (sources s t) (λ taken.
    and_then (taken_table s room taken.table) (λ table.
    and_then (entries_taken s taken.sgpd) (λ entries.
    given (record { patterns = table.patterns; rows = table.rows; entries = entries }))))
