-- Part 3 of document 01: the table in an sbgp payload.
use Rattle.std.specs.Prelude.{ℕ, zero, suc, ◌+◌, ◌*◌, List, [], ◌∷◌, ltb, length}
use Rattle.base_fields.specs.Answer.{Answer, given, refuse_if, and_then}
use Rattle.base_fields.specs.Number.{be_at}
use Rattle.table_front.specs.Front.{parameter_of, count_place, count_of, fronted}
use Rattle.table_front.specs.declared.TableKind.TheVariants.{Sbgp}
use Rattle.table_rows.specs.Row.{Row, Table}

-- n rows from place p: pairs of a sample count and an index, kept as they are
unfoldable pub read_rows : ℕ → List ℕ → ℕ → List Row
read_rows zero s p = []
read_rows (suc n) s p = record { count = be_at 4 s p; index = be_at 4 s (p + 4) } ∷ read_rows n s (p + 8)

-- the place of the first row
abbrev pub rows_place : List ℕ → ℕ
rows_place s = count_place Sbgp s + 4

-- the rows behind the front: 23 where not all of them are there
abbrev pub table_in : List ℕ → Answer Table
table_in s =
    refuse_if (ltb (length s) (rows_place s + 8 * count_of Sbgp s)) 23
    (given (record { grouping_type_of = be_at 4 s 4; parameter = parameter_of Sbgp s; rows = read_rows (count_of Sbgp s) s (rows_place s) }))

-- 55, 20, 21, 22, 23 in order
unfoldable pub sbgp : List ℕ → Answer Table
sbgp s = fronted Sbgp s (table_in s)

-- more rows than records: 29, after 23
abbrev pub entered : ℕ → Table → Answer Table
entered room t = refuse_if (ltb room (length t.rows)) 29 (given t)

abbrev pub parse_sbgp : List ℕ → ℕ → Answer Table
parse_sbgp s room = and_then (sbgp s) (entered room)
