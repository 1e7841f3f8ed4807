-- The stated rows, read one after the other.
use mathlib.Core.Path.{◌≡◌, ◌∙◌}
use Prim.Native.Nat.{ℕ, ◌+◌, ◌<◌, ◌≤◌}
use native.Mathlib.Omega.{arith}
use mathlib.Core.List.{List, [], ◌∷◌}
use lib.ListN.{length, get_or, drop, length-take, drop_of_length-le}
use lib.Seq.{get_or-take}
use Rattle.table_rows.specs.Row.{no_row, rows_of, records_in}
use Rattle.table_rows.proofs.RowAt.{rows-length, from_row}
use Rattle.table_repaint.specs.Repaint.{stated_rows}

module _ (l : List ℕ) (stated : ℕ) (fit : stated ≤ records_in l) where
  pub stated_length : length (stated_rows l stated) ≡ stated
  stated_length = length-take stated (rows_of l) ∙ omega (arith, rows-length l)

  module _ (j : ℕ) where
    -- row j and those behind it
    pub stated_row : j < stated → drop j (stated_rows l stated) ≡ get_or (rows_of l) j no_row ∷ drop (j + 1) (stated_rows l stated)
    stated_row h = from_row (stated_rows l stated) j (omega (arith, stated_length)) ∙ rw (get_or-take stated (rows_of l) j no_row h)

    pub stated_end : stated ≤ j → drop j (stated_rows l stated) ≡ []
    stated_end h = drop_of_length-le (stated_rows l stated) {i = j} (omega (arith, stated_length))
