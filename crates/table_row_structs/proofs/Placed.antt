-- A row of a number: where that is below the rows that a call reads, the row is read, and where it is below the count, the row is set; elsewhere none is.
use mathlib.Core.Path.{◌≡◌}
use Prim.Native.Nat.{ℕ, ◌<◌, ◌≤◌}
use native.Mathlib.Decide.{dec_lt}
use native.Mathlib.Omega.{arith}
use mathlib.Core.List.{List}
use lib.ListN.{length, get_or, set}
use borrow.Author.Tests.{lt-ltb, le-ltb, lt-leb, le-leb}
use Rattle.base_fields.specs.Answer.{given, none}
use Rattle.base_ids.specs.Limits.{record_limit}
use Rattle.table_rows.specs.Row.{within_records}
use Rattle.table_row_structs.specs.Records.{no_row, row_in, read_count, set_answer, rows_set}
use Rattle.table_row_structs.specs.declared.SampleToGroupEntry.{SampleToGroupEntry}

-- a number below the rows that are read
pub read_below : (n k : ℕ) → k < read_count n → (k < n) × (n ≤ record_limit)
read_below n k h =
    elim (dec_lt record_limit n) [
      | yes g ↦ absurd (let z = rw (lt-ltb record_limit n g) at h in omega arith)
      | no g ↦ (rw (le-ltb record_limit n (omega arith)) at h, omega arith)
    ]

module _ (rows : List SampleToGroupEntry) (k : ℕ) where
  abbrev n : ℕ
  n = length rows

  pub row-placed : k < read_count n → given (get_or rows k no_row) ≡ row_in rows k
  row-placed h = simp (le-ltb record_limit n (read_below n k h).1, lt-leb n k (read_below n k h).0)

  pub row-missing : read_count n ≤ k → within_records n none ≡ row_in rows k
  row-missing h =
      elim (dec_lt record_limit n) [
        | yes g ↦ simp (lt-ltb record_limit n g)
        | no g ↦
            let t = le-ltb record_limit n (omega arith) in
            let past : n ≤ k = rw t at h in
            simp (t, le-leb n k past)
      ]

  pub set-placed : k < n → (row : SampleToGroupEntry) → set rows k row ≡ rows_set (set_answer n k) rows k row
  set-placed h row = simp (lt-leb n k h)

  pub set-missing : n ≤ k → (row : SampleToGroupEntry) → rows ≡ rows_set (set_answer n k) rows k row
  set-missing h row = simp (le-leb n k h)
