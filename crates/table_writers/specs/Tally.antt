-- What a csgp's length and flags rest on.
use Rattle.std.specs.Prelude.{ℕ, ◌+◌, ◌*◌, ◌%◌, ◌<◌, ◌≤◌, max, ◌≡◌, Bool, List, leb, length, Result, Ok, Err}
use Rattle.base_fields.specs.Answer.{choose}
use Rattle.base_fields.specs.Number.{field_bound}
use Rattle.base_fields.specs.declared.refusal.Refusal.{Refusal}
use Rattle.base_fields.specs.declared.refusal.Refusal.TheVariants as refusal
use Rattle.base_ids.specs.Limits.{local_mark}
use Rattle.table_rows.specs.Row.{Row}
use Rattle.table_csgp_head.specs.Csgp.{width_of}
use Rattle.table_writing.specs.Remaining.{largest_count, largest_index, largest_low}
use Rattle.table_writing.specs.Bodies.{code_for}
use Rattle.table_writing.specs.Fields.{bytes_for}
use Rattle.table_writers.specs.declared.tally.Tally.{Tally}

abbrev pub counted : Tally → ℕ → ℕ → Tally
counted t count index =
    record { rows = t.rows + 1; count = max t.count count; index = max t.index index; low = max t.low (index % local_mark) }

pub record Tallies (rs : List Row) (t : Tally) : Type 0 where
  pub rows : t.rows ≡ length rs
  pub count : t.count ≡ largest_count rs
  pub index : t.index ≡ largest_index rs
  pub low : t.low ≡ largest_low rs
  pub small : t.count < field_bound

abbrev pub GivesTally : List Row → Result Tally Refusal → Type 0
GivesTally rs (Ok t) = Tallies rs t
GivesTally rs (Err e) = (e ≡ refusal.RowCountOver) × (field_bound ≤ largest_count rs)

-- whether a row is marked, what the width of an index has to hold, and the flags: as the bodies have them
abbrev pub marks_by : Tally → Bool
marks_by t = leb local_mark t.index

abbrev pub needs_by : Tally → ℕ
needs_by t = choose (marks_by t) (2 * t.low) t.index

abbrev pub flags_by : Tally → ℕ
flags_by t = choose (marks_by t) 128 0 + (code_for t.count * 4 + code_for (needs_by t))

-- twelve bytes, and a pattern length of four bits, a count and an index for each row
abbrev pub length_by : Tally → ℕ
length_by t = 12 + bytes_for (t.rows * (4 + width_of (code_for t.count) + width_of (code_for (needs_by t))))
