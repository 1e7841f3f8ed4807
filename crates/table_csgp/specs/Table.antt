-- Part 4 of document 01: the table that a csgp payload makes.
use Rattle.std.specs.Prelude.{ℕ, List, [], reverse}
use Rattle.base_fields.specs.Answer.{Answer, given, and_then}
use Rattle.base_fields.specs.Number.{be_at}
use Rattle.table_front.specs.Front.{parameter_of}
use Rattle.table_front.specs.declared.TableKind.TheVariants.{Csgp}
use Rattle.table_rows.specs.Row.{Row, Table}
use Rattle.table_rows.specs.Pattern.{samples_of}
use Rattle.table_replay.specs.Replay.{replay}
use Rattle.table_csgp_head.specs.Csgp.{csgp}

-- type, parameter and the rows, first row first
abbrev pub csgp_table : List ℕ → List Row → Table
csgp_table s rows = record { grouping_type_of = be_at 4 s 4; parameter = parameter_of Csgp s; rows = reverse rows }

-- after the structure the samples are entered into at most `room` rows
abbrev pub parse_csgp : List ℕ → ℕ → Answer Table
parse_csgp s room = and_then (csgp s) (λ ps. and_then (replay room [] (samples_of ps)) (λ rows. given (csgp_table s rows)))
