-- The table that a payload makes with `room` records lent (document 01, parts 3 and 4), by what was read of it.
use Rattle.std.specs.Prelude.{ℕ, List}
use Rattle.base_fields.specs.Answer.{Answer}
use Rattle.table_rows.specs.Row.{Table}
use Rattle.table_sbgp.specs.Sbgp.{parse_sbgp}
use Rattle.table_csgp.specs.Table.{parse_csgp}
use Rattle.table_runs.specs.declared.SampleTable.{SampleTable}
use Rattle.table_runs.specs.declared.SampleTable.TheVariants as table

abbrev pub table_from : List ℕ → SampleTable → ℕ → Answer Table
table_from s (table.Rows h) room = parse_sbgp s room
table_from s (table.Patterns h) room = parse_csgp s room
