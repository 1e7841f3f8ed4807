-- What the results tell.
use Rattle.std.specs.Prelude.{ℕ, ◌≡◌, List, length, Result, Ok, Err, Option, Some, None}
use Rattle.base_fields.specs.Answer.{Answer, given, none}
use Rattle.base_fields.specs.Refusal.{told_value, told_or_none}
use Rattle.base_fields.specs.declared.refusal.Refusal.{Refusal}
use Rattle.table_row_structs.specs.Records.{set_answer, rows_set, rows_copied, copy_into}
use Rattle.table_row_structs.specs.declared.SampleToGroupEntry.{SampleToGroupEntry}

abbrev pub told_row : Result (Option SampleToGroupEntry) Refusal → Answer SampleToGroupEntry
told_row = told_or_none (λ row. row)

abbrev pub told_set : Option Unit → Answer Unit
told_set (Some u) = given tt
told_set None = none

-- the answer of setting row k, and every row afterwards
pub record GivesSet (before after : List SampleToGroupEntry) (k : ℕ) (row : SampleToGroupEntry) (r : Option Unit) : Type 0 where
  pub answer : told_set r ≡ set_answer (length before) k
  pub rows : after ≡ rows_set (set_answer (length before) k) before k row

-- how many rows an answer says are written
abbrev pub accepted_in : Result ℕ Refusal → ℕ
accepted_in (Ok n) = n
accepted_in (Err e) = 0

-- the writer's answer, and every row afterwards
pub record GivesRows (l : List ℕ) (before after : List SampleToGroupEntry) (r : Result ℕ Refusal) : Type 0 where
  pub answer : told_value r ≡ copy_into l before
  pub rows : after ≡ rows_copied (copy_into l before) l before
