-- Rows as structs (document 01, parts 3 and 5): the rows that they are, the answers of the readers, and a run of numbers written over them.
use Rattle.std.specs.Prelude.{ℕ, List, map, ◌++◌, ltb, leb, length, drop, get_or, set}
use Rattle.base_fields.specs.Answer.{Answer, given, none, refused, choose, refuse_if, none_if}
use Rattle.table_rows.specs.Row.{Row, rows_of, records_in, within_records, covered, index_at}
use Rattle.base_ids.specs.Limits.{record_limit}
use Rattle.table_row_structs.specs.declared.SampleToGroupEntry.{SampleToGroupEntry}

abbrev pub row_of : SampleToGroupEntry → Row
row_of e = record { count = e.sample_count; index = e.group_description_index }

abbrev pub record_rows : List SampleToGroupEntry → List Row
record_rows rows = map row_of rows

-- what stands for a row past the end
abbrev pub no_row : SampleToGroupEntry
no_row = record { sample_count = 0; group_description_index = 0 }

-- row k: 55 where there are too many rows, none past the end
abbrev pub row_in : List SampleToGroupEntry → ℕ → Answer SampleToGroupEntry
row_in rows k = within_records (length rows) (none_if (leb (length rows) k) (given (get_or rows k no_row)))

-- the answer where row k of n is set: none past the end. No row is read, so there may be more rows than a reader takes.
abbrev pub set_answer : ℕ → ℕ → Answer Unit
set_answer n k = none_if (leb n k) (given tt)

-- the rows after that answer
abbrev pub rows_set : Answer Unit → List SampleToGroupEntry → ℕ → SampleToGroupEntry → List SampleToGroupEntry
rows_set (given _) rows k row = set rows k row
rows_set none rows k row = rows
rows_set (refused n) rows k row = rows

-- the answers of the two lookups (part 5)
abbrev pub lookup_in : List SampleToGroupEntry → ℕ → Answer ℕ
lookup_in rows k = within_records (length rows) (given (index_at (record_rows rows) k))

abbrev pub total_in : List SampleToGroupEntry → Answer ℕ
total_in rows = within_records (length rows) (given (covered (record_rows rows)))

-- the same check of a number of records, and how many of them are read
abbrev pub or_too_many : ℕ → ℕ → Answer ℕ
or_too_many n answer = within_records n (given answer)

abbrev pub read_count : ℕ → ℕ
read_count n = choose (ltb record_limit n) 0 n

-- the records of a run of numbers, as structs
abbrev pub struct_of : Row → SampleToGroupEntry
struct_of r = record { sample_count = r.count; group_description_index = r.index }

abbrev pub structs_of : List ℕ → List SampleToGroupEntry
structs_of l = map struct_of (rows_of l)

-- the answer where so many records are written over so many rows: 55 first, then 29 where there are more records than rows (part 3)
abbrev pub copy_answer : ℕ → ℕ → Answer ℕ
copy_answer records rows = within_records records (refuse_if (ltb rows records) 29 (given records))

abbrev pub copy_into : List ℕ → List SampleToGroupEntry → Answer ℕ
copy_into l rows = copy_answer (records_in l) (length rows)

-- the rows after that answer: the records stand in front, and the rows behind them stay; on refusal all stay
abbrev pub rows_copied : Answer ℕ → List ℕ → List SampleToGroupEntry → List SampleToGroupEntry
rows_copied (given n) l rows = structs_of l ++ drop n rows
rows_copied none l rows = rows
rows_copied (refused n) l rows = rows
