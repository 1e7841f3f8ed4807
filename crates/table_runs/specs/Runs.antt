-- The samples ahead of a place in a table's payload.
use Rattle.std.specs.Prelude.{◌≡◌, ℕ, ◌-◌, ◌<◌, List, [], ◌∷◌, ◌++◌, length, replicate, Option, Some, None}
use Rattle.base_ids.specs.declared.DescriptionIndex.{DescriptionIndex}
use Rattle.table_rows.specs.Pattern.{Pattern, samples_from, samples_of}
use Rattle.table_runs.specs.Ahead.{all_in, ahead_in, WholeIn}
use Rattle.table_runs.specs.declared.SampleTable.{SampleTable}
use Rattle.table_runs.specs.declared.RunCursor.{RunCursor}

-- the samples of patterns, where k of the first one's are passed
abbrev pub samples_behind : List Pattern → ℕ → List ℕ
samples_behind [] k = []
samples_behind (p ∷ ps) k = samples_from p k (p.count - k) ++ samples_of ps

abbrev pub samples_ahead : List ℕ → SampleTable → RunCursor → List ℕ
samples_ahead s t c = samples_behind (ahead_in s t c.here) c.sample

abbrev pub first_run : SampleTable → RunCursor
first_run t = record { here = all_in t; sample = 0 }

-- n samples of index i, then those ahead of the cursor d
pub record Runs (s : List ℕ) (t : SampleTable) (c : RunCursor) (n i : ℕ) (d : RunCursor) : Type 0 where
  pub some : 0 < n
  pub samples : samples_ahead s t c ≡ replicate n i ++ samples_ahead s t d
  pub whole : WholeIn s t d.here
  pub fewer : length (samples_ahead s t d) < length (samples_ahead s t c)

abbrev pub GivesNext : List ℕ → SampleTable → RunCursor → Option (ℕ × DescriptionIndex × RunCursor) → Type 0
GivesNext s t c (Some (n, i, d)) = Runs s t c n i.0 d
GivesNext s t c None = samples_ahead s t c ≡ []
