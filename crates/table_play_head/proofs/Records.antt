-- A walk over the records of a run of numbers, record by record.
use mathlib.Core.Path.{◌≡◌, refl, sym, ◌∙◌}
use Prim.Native.Nat.{ℕ, ◌+◌, ◌-◌, ◌<◌, ◌≤◌}
use native.Mathlib.Omega.{arith}
use mathlib.Core.List.{List, [], ◌∷◌}
use lib.ListN.{get_or, drop, drop_of_length-le}
use Rattle.table_rows.specs.Row.{Row, rows_of, records_in, no_row, covered}
use Rattle.table_rows.proofs.RowAt.{rows-length, from_row}
use Rattle.table_play_head.specs.Play.{row_at}
use Rattle.table_play_head.specs.Head.{within_at, first_index}
use Rattle.table_play_head.specs.Turn.{GivesWalk}
use Rattle.table_play_head.proofs.Walk.{row_here, row-later, offset_here, offset_later}

-- the rows from record n of a run on
module _ (l : List ℕ) (n : ℕ) where
  pub record_at : n < records_in l → drop n (rows_of l) ≡ get_or (rows_of l) n no_row ∷ drop (n + 1) (rows_of l)
  record_at h = from_row (rows_of l) n (omega (arith, rows-length l))

  pub record_none : records_in l ≤ n → drop n (rows_of l) ≡ []
  record_none h = drop_of_length-le (rows_of l) {i = n} (omega (arith, rows-length l))

  pub index_at : n < records_in l → first_index (drop n (rows_of l)) ≡ (get_or (rows_of l) n no_row).index
  index_at h = rw (record_at h)

  pub index-none : records_in l ≤ n → first_index (drop n (rows_of l)) ≡ 0
  index-none h = rw (record_none h)

-- a walk of n samples from row i on is at row j, with m samples to go
pub record Ahead (rows : List Row) (i n j m : ℕ) : Type 0 where
  pub row : i + row_at (drop i rows) n ≡ j + row_at (drop j rows) m
  pub within : within_at (drop i rows) n ≡ within_at (drop j rows) m
  pub past : n - covered (drop i rows) ≡ m - covered (drop j rows)

pub ahead-start : (rows : List Row) (i n : ℕ) → Ahead rows i n i n
ahead-start rows i n = record { row = refl; within = refl; past = refl }

module _ (l : List ℕ) (i n j m : ℕ) (a : Ahead (rows_of l) i n j m) where
  module _ (h : j < records_in l) where
    abbrev r : Row
    r = get_or (rows_of l) j no_row

    abbrev rs : List Row
    rs = drop (j + 1) (rows_of l)

    pub ahead-next : r.count ≤ m → Ahead (rows_of l) i n (j + 1) (m - r.count)
    unfolding covered
    ahead-next g =
        let e = record_at l j h in
        record {
          row = omega (arith, rw e at a.row, row-later r rs m g);
          within = rw e at a.within ∙ offset_later r rs m g;
          past = omega (arith, rw e at a.past);
        }

    pub ends-here : m < r.count → GivesWalk (drop i (rows_of l)) i n (record { row = j; within = m; past = 0 })
    unfolding covered
    ends-here g =
        let e = record_at l j h in
        record {
          row = omega (arith, rw e at a.row, row_here r rs m g);
          within = sym (rw e at a.within ∙ offset_here r rs m g);
          past = omega (arith, rw e at a.past);
        }

  pub ends-past : records_in l ≤ j → GivesWalk (drop i (rows_of l)) i n (record { row = j; within = 0; past = m })
  unfolding covered row_at within_at
  ends-past h =
      let e = record_none l j h in
      record { row = omega (arith, rw e at a.row); within = sym (rw e at a.within); past = omega (arith, rw e at a.past) }
