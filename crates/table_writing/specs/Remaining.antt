-- The rows that a csgp is written from (document 02, A5): the joined rows, whose counts have to fit their fields.
use Rattle.std.specs.Prelude.{ℕ, ◌%◌, ◌<◌, max, Bool, List, [], ◌∷◌, leb}
use Rattle.base_fields.specs.Answer.{Answer, given, refuse_if}
use Rattle.base_fields.specs.Number.{field_bound}
use Rattle.base_ids.specs.Limits.{local_mark}
use Rattle.table_rows.specs.Row.{Row}
use Rattle.table_rows.specs.Joined.{joined}

-- the largest count, or the largest index, of rows; 0 where there are none
unfoldable pub largest : (Row → ℕ) → List Row → ℕ
largest part [] = 0
largest part (r ∷ rs) = max (part r) (largest part rs)

abbrev pub largest_count : List Row → ℕ
largest_count rs = largest (λ r. r.count) rs

abbrev pub largest_index : List Row → ℕ
largest_index rs = largest (λ r. r.index) rs

-- a row has bit 31, the mark (document 02, A7): an index has 32 bits, so it is 2^31 or more
abbrev pub marked : List Row → Bool
marked rs = leb local_mark (largest_index rs)

-- the largest low part: of an index without its mark
abbrev pub largest_low : List Row → ℕ
largest_low rs = largest (λ r. r.index % local_mark) rs

-- the rows that remain: 28 if a joined count does not fit a 32-bit field
unfoldable pub remaining : List Row → Answer (List Row)
remaining rs = refuse_if (leb field_bound (largest_count (joined rs))) 28 (given (joined rs))

-- rows whose counts and indices fit 32-bit fields
pub record Small (rs : List Row) : Type 0 where
  pub counts : largest_count rs < field_bound
  pub indices : largest_index rs < field_bound
