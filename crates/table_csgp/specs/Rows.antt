-- The rows that a payload's samples make.
use Rattle.std.specs.Prelude.{ℕ, List, []}
use Rattle.base_fields.specs.Answer.{Answer, and_then}
use Rattle.table_rows.specs.Row.{Row}
use Rattle.table_rows.specs.Pattern.{samples_of}
use Rattle.table_replay.specs.Replay.{replay}
use Rattle.table_csgp_head.specs.Csgp.{csgp}

-- the rows of a payload's samples, the last one first
abbrev pub rows_for : List ℕ → ℕ → Answer (List Row)
rows_for s room = and_then (csgp s) (λ ps. replay room [] (samples_of ps))
