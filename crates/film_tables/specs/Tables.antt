-- The numbers of a table's head, and what a table's reader leaves in the lent rows.
use Rattle.std.specs.Prelude.{ℕ, ◌≡◌, List, [], ◌∷◌}
use Rattle.base_fields.specs.Answer.{Answer, given, and_then}
use Rattle.table_rows.specs.Row as row
use Rattle.table_rows.specs.Row.{Table}
use Rattle.table_rows.specs.Found.{TableHead, table_head}
use Rattle.film_status.specs.Status.{Returns}

-- type, parameter, row count
abbrev pub head_numbers : TableHead → List ℕ
head_numbers h = h.grouping_type_of ∷ h.parameter ∷ h.row_count ∷ []

-- the status and `out` as elsewhere; the rows in front of the lent run, or the run as it was
pub record Fills (told : Answer Table) (rows rows' out out' : List ℕ) (r : ℕ) : Type 0 where
  pub returned : Returns (and_then told (λ t. given (table_head t))) head_numbers out out' r
  pub filled : rows' ≡ row.filled row.rows_of_table told rows
