-- What is known of a table before its rows are written: the answer, how many rows there are, and where they are read.
use Rattle.std.specs.Prelude.{ℕ, ◌<◌, ◌≤◌, ◌≡◌, List, [], length}
use Rattle.base_fields.specs.Answer.{Answer, given, none, refused, and_then}
use Rattle.table_rows.specs.Row.{Row, Table}
use Rattle.table_rows.specs.Found.{table_head, told_table}
use Rattle.table_structs.specs.Stream.{rows_ahead, Joins}
use Rattle.table_structs.specs.declared.plan.Plan.{Plan}

-- the rows that are written
abbrev pub rows_told : Answer Table → List Row
rows_told (given t) = t.rows
rows_told none = []
rows_told (refused n) = []

pub record GivesPlan (told : Answer Table) (s : List ℕ) (room : ℕ) (p : Plan) : Type 0 where
  pub answer : told_table p.answer ≡ and_then told (λ t. given (table_head t))
  pub count : p.count ≡ length (rows_told told)
  pub fits : p.count ≤ room
  pub rows : 0 < p.count → rows_ahead s p.table p.first ≡ rows_told told
  pub joins : 0 < p.count → Joins s p.table p.first
