-- The edit in place is one pass over the stated rows, which writes new rows over them. Two rows are held by value: the last new row, which is
-- not stored before the next begins, and one old row that was read ahead. So the records stored never outnumber the rows read.
use Rattle.std.specs.Prelude.{ℕ, ◌+◌, ◌-◌, List, [], ◌∷◌, reverse, eqb}
use Rattle.base_fields.specs.Answer.{choose}
use Rattle.table_rows.specs.Row.{Row, put_row}
use Rattle.table_rows.proofs.Rows.{front}
use Rattle.table_replay.specs.Enter.{tail_of}
use Rattle.table_replay.specs.declared.enter.Tail.{Tail}

-- the run of numbers as it stands, and the new rows so far, of which the last is not yet stored
pub record Work : Type 0 where
  pub numbers : List ℕ
  pub tail : Tail

abbrev pub work_in : List ℕ → Tail → Work
work_in l t = record { numbers = l; tail = t }

-- the numbers with the last row stored
unfoldable pub with_last : Work → List ℕ
with_last w = let t = w.tail in choose (eqb t.rows 0) w.numbers (put_row (t.rows - 1) t.count t.index w.numbers)

-- a run comes: it is empty, or joins the last row, or begins a new one, and the last row is stored
abbrev pub joined_work : Work → Row → Work
joined_work w r = let t = w.tail in work_in w.numbers (record { rows = t.rows; count = t.count + r.count; index = r.index })

abbrev pub begun_work : Work → Row → Work
begun_work w r = work_in (with_last w) (record { rows = w.tail.rows + 1; count = r.count; index = r.index })

unfoldable pub put_run : Work → Row → Work
put_run w r =
    choose (eqb r.count 0) w
    (choose (eqb w.tail.rows 0) (begun_work w r) (choose (eqb w.tail.index r.index) (joined_work w r) (begun_work w r)))

unfoldable pub put_runs : Work → List Row → Work
put_runs w [] = w
put_runs w (r ∷ rs) = put_runs (put_run w r) rs

-- the work once the rows `out` were made, the last one first: all but the last are stored in front of what the run held
abbrev pub work_of : List ℕ → List Row → Work
work_of l [] = work_in l (tail_of [])
work_of l (q ∷ qs) = work_in (front (reverse qs) l) (tail_of (q ∷ qs))
