-- The tables of parts 3 and 4 of document 01, read into a lent run of row structs.
use Rattle.std.specs.Prelude.{ℕ, ◌≡◌, List, map, Result}
use Rattle.base_fields.specs.Answer.{Answer, given, and_then, overwritten}
use Rattle.base_fields.specs.declared.refusal.Refusal.{Refusal}
use Rattle.table_front.specs.declared.TableKind.{TableKind}
use Rattle.table_front.specs.declared.TableKind.TheVariants.{Sbgp, Csgp}
use Rattle.table_rows.specs.Row.{Table}
use Rattle.table_rows.specs.Found.{table_head, told_table}
use Rattle.table_rows.specs.declared.SampleToGroup.{SampleToGroup}
use Rattle.table_row_structs.specs.Records.{struct_of}
use Rattle.table_row_structs.specs.declared.SampleToGroupEntry.{SampleToGroupEntry}
use Rattle.table_sbgp.specs.Sbgp.{parse_sbgp}
use Rattle.table_csgp.specs.Table.{parse_csgp}

-- the rows of a table as structs
abbrev pub structs_of_table : Table → List SampleToGroupEntry
structs_of_table t = map struct_of t.rows

-- a reader's result and the run of structs afterwards, where the answer is `told`
pub record GivesTableIn (told : Answer Table) (before after : List SampleToGroupEntry) (r : Result SampleToGroup Refusal) : Type 0 where
  pub answer : told_table r ≡ and_then told (λ t. given (table_head t))
  pub rows : after ≡ overwritten structs_of_table told before

-- the table of a payload of either kind, in so many records
abbrev pub parsed_table : TableKind → List ℕ → ℕ → Answer Table
parsed_table Sbgp s room = parse_sbgp s room
parsed_table Csgp s room = parse_csgp s room
