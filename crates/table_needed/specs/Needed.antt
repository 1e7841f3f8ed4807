-- The number of rows that a payload needs (document 01, parts 3 and 4): those of the table that its reader gives where records never run out.
use Rattle.std.specs.Prelude.{ℕ, List, length}
use Rattle.base_fields.specs.Answer.{Answer, given, and_then}
use Rattle.table_rows.specs.Row.{Table}

-- more records than any table has rows: the largest number of a usize
abbrev pub unlimited : ℕ
unlimited = 18446744073709551615

abbrev pub rows_needed : (List ℕ → ℕ → Answer Table) → List ℕ → Answer ℕ
rows_needed parse s = and_then (parse s unlimited) (λ t. given (length t.rows))
