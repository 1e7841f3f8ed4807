-- What an edit returns and leaves.
use Rattle.std.specs.Prelude.{ℕ, ◌≡◌, List}
use Rattle.base_fields.specs.Answer.{Answer}
use Rattle.table_rows.specs.Row.{Row}
use Rattle.table_repaint.specs.Repaint.{rows_counted, run_after}
use Rattle.film_status.specs.Status.{Returns, one_number}

-- where these are the new rows: the status, and in `out` how many they are; the run with the new rows in front, or as it was
pub record Repaints (told : Answer (List Row)) (rows rows' out out' : List ℕ) (r : ℕ) : Type 0 where
  pub returned : Returns (rows_counted told) one_number out out' r
  pub run : rows' ≡ run_after told rows
