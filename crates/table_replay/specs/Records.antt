-- Rows in the records of a run of numbers: copied, or written in front.
use Rattle.std.specs.Prelude.{◌≡◌, ℕ, zero, suc, List, reverse, get_or}
use Rattle.base_fields.specs.Answer.{given}
use Rattle.table_rows.specs.Row.{Row, no_row, rows_of, put_row, filled}

-- n records copied one after the other, from record i on, to record j on
unfoldable pub copied : ℕ → ℕ → ℕ → List ℕ → List ℕ
copied zero i j l = l
copied (suc n) i j l = let r = get_or (rows_of l) i no_row in copied n (suc i) (suc j) (put_row j r.count r.index l)

-- the run l, which was e, after rows, the last one first, were written in front
abbrev pub Written : List ℕ → List ℕ → List Row → Type 0
Written e l rows = l ≡ filled reverse (given rows) e
