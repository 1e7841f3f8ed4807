-- A walk over the rows that remain, one at a time.
use Rattle.std.specs.Prelude.{ℕ, ◌<◌, ◌≤◌, ◌≡◌, List, [], ◌∷◌, get_or, drop, Result, Ok, Err, Option, Some, None}
use Rattle.base_fields.specs.Number.{field_bound}
use Rattle.base_fields.specs.declared.refusal.Refusal.{Refusal}
use Rattle.base_fields.specs.declared.refusal.Refusal.TheVariants as refusal
use Rattle.table_rows.specs.Row.{Row, rows_of, records_in, no_row}
use Rattle.table_rows.specs.Joined.{joined}
use Rattle.table_writing.specs.Remaining.{largest_count}
use Rattle.table_writers.specs.declared.runs.RunAt.{RunAt}

abbrev pub row : ℕ → ℕ → Row
row count index = record { count = count; index = index }

-- the rows that remain from record k of a run of numbers on
abbrev pub ahead : List ℕ → ℕ → List Row
ahead l k = joined (drop k (rows_of l))

-- rows of count 0 were passed
pub record Passed (l : List ℕ) (from to : ℕ) : Type 0 where
  pub onward : from ≤ to
  pub inside : to ≤ records_in l
  pub rows : ahead l from ≡ ahead l to
  pub some : to < records_in l → 0 < (get_or (rows_of l) to no_row).count

-- rows begin with a run, and the others stand from a record on
pub record Begins (rs : List Row) (l : List ℕ) (from : ℕ) (r : RunAt) : Type 0 where
  pub rows : rs ≡ row r.count r.index ∷ ahead l r.next
  pub small : r.count < field_bound
  pub onward : from ≤ r.next
  pub inside : r.next ≤ records_in l

abbrev pub GivesNext : List Row → List ℕ → ℕ → Result (Option RunAt) Refusal → Type 0
GivesNext rs l from (Ok (Some r)) = Begins rs l from r
GivesNext rs l from (Ok None) = rs ≡ []
GivesNext rs l from (Err e) = (e ≡ refusal.RowCountOver) × (field_bound ≤ largest_count rs)
