-- The rows ahead of a place in a table's payload, one after the other.
use Rattle.std.specs.Prelude.{ℕ, ◌+◌, ◌*◌, ◌≤◌, ◌≡◌, List, [], ◌∷◌, ◌++◌, eqb, length, replicate}
use Rattle.base_fields.specs.Answer.{choose}
use Rattle.base_ids.specs.Limits.{count_limit}
use Rattle.table_rows.specs.Row.{Row}
use Rattle.table_row_structs.specs.Records.{row_of}
use Rattle.table_sbgp.specs.Sbgp.{read_rows}
use Rattle.table_csgp_head.specs.declared.PatternsAt.{PatternsAt}
use Rattle.table_runs.specs.Ahead.{WholeIn}
use Rattle.table_runs.specs.Runs.{samples_ahead, first_run}
use Rattle.table_runs.specs.declared.SampleTable.{SampleTable}
use Rattle.table_runs.specs.declared.SampleTable.TheVariants as table
use Rattle.table_runs.specs.declared.RunCursor.{RunCursor}
use Rattle.table_structs.specs.declared.stream.RowCursor.{RowCursor}
use Rattle.table_structs.specs.declared.stream.NextRow.{NextRow}

-- a sample in front of rows: it joins the first one, where the index is the same, or is a row of its own
abbrev pub with_sample : ℕ → List Row → List Row
with_sample i [] = record { count = 1; index = i } ∷ []
with_sample i (r ∷ rs) = choose (eqb r.index i) (record { count = r.count + 1; index = i } ∷ rs) (record { count = 1; index = i } ∷ r ∷ rs)

-- samples as rows, equal neighbours joined
unfoldable pub samples_joined : List ℕ → List Row
samples_joined [] = []
samples_joined (i ∷ is) = with_sample i (samples_joined is)

-- each row's count is within its limit
unfoldable pub CountsFit : List Row → Type 0
CountsFit [] = Unit
CountsFit (r ∷ rs) = (r.count ≤ count_limit) × CountsFit rs

-- the rows of an sbgp from a place on
abbrev pub rows_from : List ℕ → PatternsAt → List Row
rows_from s here = read_rows here.left s here.pair

-- the samples of the run in hand, and those behind it
abbrev pub samples_held : List ℕ → SampleTable → RowCursor → List ℕ
samples_held s t c = replicate c.count c.index ++ samples_ahead s t c.run

-- the rows of an sbgp as they stand; those of a csgp joined from its samples
abbrev pub rows_ahead : List ℕ → SampleTable → RowCursor → List Row
rows_ahead s (table.Rows h) c = rows_from s c.run.here
rows_ahead s (table.Patterns h) c = samples_joined (samples_held s (table.Patterns h) c)

-- no run is in hand only where none is left
pub record Ready (s : List ℕ) (t : SampleTable) (c : RowCursor) : Type 0 where
  pub whole : WholeIn s t c.run.here
  pub held : c.count ≡ 0 → samples_ahead s t c.run ≡ []

-- a cursor from which each row can be made
abbrev pub Joins : List ℕ → SampleTable → RowCursor → Type 0
Joins s (table.Rows h) c = WholeIn s (table.Rows h) c.run.here
Joins s (table.Patterns h) c = Ready s (table.Patterns h) c × CountsFit (rows_ahead s (table.Patterns h) c)

-- the next run is in hand
pub record HoldsRun (s : List ℕ) (t : SampleTable) (at : RunCursor) (c : RowCursor) : Type 0 where
  pub ready : Ready s t c
  pub samples : samples_ahead s t at ≡ samples_held s t c

-- the first of the rows of a table's samples, and those behind it
pub record GivesJoined (s : List ℕ) (t : SampleTable) (c : RowCursor) (r : NextRow) : Type 0 where
  pub first : samples_joined (samples_held s t c) ≡ row_of r.row ∷ samples_joined (samples_held s t r.rest)
  pub ready : Ready s t r.rest

-- the first row of an sbgp from a place on, and the place behind it
pub record GivesPlain (s : List ℕ) (here : PatternsAt) (r : NextRow) : Type 0 where
  pub first : rows_from s here ≡ row_of r.row ∷ rows_from s r.rest.run.here
  pub inside : r.rest.run.here.pair + 8 * r.rest.run.here.left ≤ length s

-- the first of the rows ahead, and those behind it
pub record GivesRow (s : List ℕ) (t : SampleTable) (c : RowCursor) (r : NextRow) : Type 0 where
  pub first : rows_ahead s t c ≡ row_of r.row ∷ rows_ahead s t r.rest
  pub joins : Joins s t r.rest

-- all rows of a table are ahead
abbrev pub GivesFirst : List ℕ → SampleTable → RowCursor → Type 0
GivesFirst s (table.Rows h) c = c.run ≡ first_run (table.Rows h)
GivesFirst s (table.Patterns h) c = HoldsRun s (table.Patterns h) (first_run (table.Patterns h)) c
