-- What the results of the lookups and of a table's reader tell.
use Rattle.std.specs.Prelude.{ℕ, ◌≡◌, List, length, Result}
use Rattle.base_fields.specs.Answer.{Answer, given, and_then}
use Rattle.base_fields.specs.Refusal.{told}
use Rattle.base_fields.specs.declared.refusal.Refusal.{Refusal}
use Rattle.base_ids.specs.declared.DescriptionIndex.{DescriptionIndex}
use Rattle.table_rows.specs.Row.{Table, filled, rows_of_table}
use Rattle.table_rows.specs.declared.SampleToGroup.{SampleToGroup}

abbrev pub told_index : Result DescriptionIndex Refusal → Answer ℕ
told_index = told (λ i. i.0)

-- what a table's reader answers beside the rows: type, parameter and row count
pub record TableHead : Type 0 where
  pub grouping_type_of : ℕ
  pub parameter : ℕ
  pub row_count : ℕ

abbrev pub table_head : Table → TableHead
table_head t = record { grouping_type_of = t.grouping_type_of; parameter = t.parameter; row_count = length t.rows }

-- that head of the fields that were read
abbrev pub table_read : SampleToGroup → TableHead
table_read t = record { grouping_type_of = t.grouping_type; parameter = t.grouping_type_parameter; row_count = t.entry_count }

abbrev pub told_table : Result SampleToGroup Refusal → Answer TableHead
told_table = told table_read

-- a reader's result and the run of numbers afterwards, where the answer is `told`
pub record GivesTable (told : Answer Table) (before after : List ℕ) (r : Result SampleToGroup Refusal) : Type 0 where
  pub answer : told_table r ≡ and_then told (λ t. given (table_head t))
  pub rows : after ≡ filled rows_of_table told before
