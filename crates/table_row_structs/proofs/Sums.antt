-- The samples that the first rows cover, one row at a time, and how many rows a call reads.
use mathlib.Core.Path.{◌≡◌, refl}
use Prim.Native.Nat.{ℕ, zero, suc, ◌+◌, ◌<◌, ◌≤◌}
use native.Mathlib.Decide.{dec_lt}
use native.Mathlib.Numerals.{add-one}
use native.Mathlib.Omega.{arith}
use mathlib.Core.List.{List, [], ◌∷◌}
use lib.ListN.{length, get_or, take}
use lib.Seq.{take-length}
use borrow.Author.Tests.{lt-ltb, le-ltb}
use Rattle.table_rows.specs.Row.{covered}
use Rattle.base_ids.specs.Limits.{record_limit}
use Rattle.table_row_structs.specs.Records.{no_row, record_rows, or_too_many, read_count, total_in}
use Rattle.table_row_structs.specs.declared.SampleToGroupEntry.{SampleToGroupEntry}

pub read_all : (n : ℕ) → n ≤ record_limit → read_count n ≡ n
read_all n h = simp (le-ltb record_limit n h)

pub read_none : (n : ℕ) → record_limit < n → read_count n ≡ 0
read_none n h = simp (lt-ltb record_limit n h)

pub read-within : (n : ℕ) → (read_count n ≤ n) × (read_count n ≤ record_limit)
read-within n =
    elim (dec_lt record_limit n) [
      | yes h ↦ omega (arith, read_none n h)
      | no h ↦ let b : n ≤ record_limit = omega arith in omega (arith, read_all n b)
    ]

abbrev pub sum_to : List SampleToGroupEntry → ℕ → ℕ
sum_to rows k = covered (record_rows (take k rows))

pub sum-none : (rows : List SampleToGroupEntry) → sum_to rows 0 ≡ 0
unfolding covered
sum-none rows = refl

sum-suc : (rows : List SampleToGroupEntry) (k : ℕ) → k < length rows → sum_to rows (suc k) ≡ sum_to rows k + (get_or rows k no_row).sample_count
unfolding covered
sum-suc [] k h = absurd (omega arith)
sum-suc (r ∷ rows) zero h = omega arith
sum-suc (r ∷ rows) (suc k) h = omega (arith, sum-suc rows k (omega arith))

pub sum-next : (rows : List SampleToGroupEntry) (k : ℕ) → k < length rows → sum_to rows (k + 1) ≡ sum_to rows k + (get_or rows k no_row).sample_count
sum-next rows k h = rw add-one (sum-suc rows k h)

-- the sum over the rows that are read gives the answer over all of them
pub total-told : (rows : List SampleToGroupEntry) → or_too_many (length rows) (sum_to rows (read_count (length rows))) ≡ total_in rows
total-told rows =
    elim (dec_lt record_limit (length rows)) [
      | yes h ↦ simp (lt-ltb record_limit (length rows) h)
      | no h ↦
          let b : length rows ≤ record_limit = omega arith in
          rw (read_all (length rows) b, take-length rows)
    ]
