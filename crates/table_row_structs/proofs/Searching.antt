-- A lookup row by row: what the rows from row i on give the samples still to pass.
use mathlib.Core.Path.{◌≡◌}
use Prim.Native.Nat.{ℕ, ◌+◌, ◌-◌, ◌<◌, ◌≤◌}
use native.Mathlib.Decide.{dec_lt}
use native.Mathlib.Numerals.{add-one}
use native.Mathlib.Omega.{arith}
use mathlib.Core.List.{List}
use lib.ListN.{length, get_or, drop, drop_of_length-le}
use lib.Seq.{drop-cons}
use borrow.Author.Tests.{lt-ltb, le-ltb}
use Rattle.table_rows.specs.Row.{index_at}
use Rattle.base_ids.specs.Limits.{record_limit}
use Rattle.table_row_structs.specs.Records.{no_row, record_rows, read_count}
use Rattle.table_row_structs.specs.declared.SampleToGroupEntry.{SampleToGroupEntry}
use Rattle.table_row_structs.proofs.Sums.{read_all, read_none}

module _ (rows : List SampleToGroupEntry) (i left : ℕ) where
  module _ (h : i < length rows) where
    abbrev row : SampleToGroupEntry
    row = get_or rows i no_row

    pub found-here : left < row.sample_count → index_at (record_rows (drop i rows)) left ≡ row.group_description_index
    unfolding index_at
    found-here g = rw (drop-cons rows i no_row h, lt-ltb _ _ g)

    pub found-later : row.sample_count ≤ left → index_at (record_rows (drop i rows)) left ≡ index_at (record_rows (drop (i + 1) rows)) (left - row.sample_count)
    unfolding index_at
    found-later g = rw (drop-cons rows i no_row h, add-one i, le-ltb left row.sample_count g)

  pub found-none : length rows ≤ i → index_at (record_rows (drop i rows)) left ≡ 0
  unfolding index_at
  found-none h = rw (drop_of_length-le rows {i = i} h)

-- where a row is read, all are
pub read_if : (n k : ℕ) → k < read_count n → read_count n ≡ n
read_if n k h =
    elim (dec_lt record_limit n) [
      | yes g ↦ absurd (omega (arith, read_none n g))
      | no g ↦ read_all n (omega arith)
    ]
