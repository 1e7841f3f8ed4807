-- What the edit promises (A10).
use Rattle.std.specs.Prelude.{ℕ, ◌≡◌, List, Result}
use Rattle.base_fields.specs.Answer.{Answer}
use Rattle.base_fields.specs.Refusal.{told_value}
use Rattle.base_fields.specs.declared.refusal.Refusal.{Refusal}
use Rattle.table_rows.specs.Row.{Row}
use Rattle.table_repaint.specs.Repaint.{rows_counted, run_after}

-- an edit where these are the new rows: its answer, and the run afterwards
pub record GivesRepaint (told : Answer (List Row)) (before after : List ℕ) (r : Result ℕ Refusal) : Type 0 where
  pub answer : told_value r ≡ rows_counted told
  pub run : after ≡ run_after told before
