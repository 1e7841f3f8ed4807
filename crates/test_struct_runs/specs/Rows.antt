-- What the readers and the writers of rows answer.
use Rattle.std.specs.Prelude.{ℕ, ◌≡◌, List}
use Rattle.base_fields.specs.Refusal.{told_value}
use Rattle.table_rows.specs.Found.{told_index}
use Rattle.table_row_structs.specs.Records.{row_in, lookup_in, total_in, copy_into, rows_copied}
use Rattle.table_row_structs.specs.Steps.{told_row, GivesSet}
use Rattle.table_row_structs.specs.declared.SampleToGroupEntry.{SampleToGroupEntry}
use Rattle.test_struct_runs.specs.declared.RowsRead.{RowsRead}
use Rattle.test_struct_runs.specs.declared.RowsWritten.{RowsWritten}

pub record GivesReads (rows : List SampleToGroupEntry) (k sample : ℕ) (r : RowsRead) : Type 0 where
  pub row : told_row r.row ≡ row_in rows k
  pub index : told_index r.index ≡ lookup_in rows sample
  pub covered : told_value r.covered ≡ total_in rows

-- the numbers written over the rows, and then row k set
pub record GivesWrites (numbers : List ℕ) (rows : List SampleToGroupEntry) (k : ℕ) (row : SampleToGroupEntry) (r : RowsWritten) : Type 0 where
  pub written : told_value r.written ≡ copy_into numbers rows
  pub set : GivesSet (rows_copied (copy_into numbers rows) numbers rows) r.rows k row r.set
