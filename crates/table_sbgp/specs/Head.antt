-- What the reader of an sbgp payload hands on: its fixed fields, and where its rows stand.
use Rattle.std.specs.Prelude.{ℕ, ◌+◌, ◌*◌, ◌≤◌, ◌≡◌, List, length, Result, Ok, Err}
use Rattle.base_fields.specs.Answer.{given, refused, input_limit}
use Rattle.base_fields.specs.Refusal.{number}
use Rattle.base_fields.specs.declared.refusal.Refusal.{Refusal}
use Rattle.table_rows.specs.Row.{Table}
use Rattle.table_sbgp.specs.Sbgp.{read_rows, rows_place, sbgp}
use Rattle.table_sbgp.specs.declared.SbgpHead.{SbgpHead}

abbrev pub sbgp_table : List ℕ → SbgpHead → Table
sbgp_table s h =
    record {
      grouping_type_of = h.grouping_type;
      parameter = h.grouping_type_parameter;
      rows = read_rows h.entry_count s h.first;
    }

-- the head of a payload whose rows are all there
pub record SbgpLaid (s : List ℕ) (h : SbgpHead) : Type 0 where
  pub table : sbgp s ≡ given (sbgp_table s h)
  pub first : h.first ≡ rows_place s
  pub inside : h.first + 8 * h.entry_count ≤ length s
  pub short : length s ≤ input_limit

abbrev pub GivesSbgp : List ℕ → Result SbgpHead Refusal → Type 0
GivesSbgp s (Ok h) = SbgpLaid s h
GivesSbgp s (Err e) = sbgp s ≡ refused (number e)
