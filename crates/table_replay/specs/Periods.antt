-- Whole periods of a pattern that are passed in one step.
use Rattle.std.specs.Prelude.{◌≡◌, ◌⊎◌, ℕ, ◌+◌, ◌-◌, ◌*◌, ◌≤◌, ◌<◌, Option, Some, None}
use Rattle.table_replay.specs.declared.enter.Tail.{Tail}
use Rattle.table_replay.specs.declared.periods.Mark.{Mark}

-- the samples since the mark are one period, which left the last row as it found it, with more rows below it
pub record AlikePeriod (mark : Mark) (tail : Tail) (k length : ℕ) : Type 0 where
  pub period : k ≡ mark.sample + length
  pub some : 0 < mark.tail.rows
  pub more : mark.tail.rows < tail.rows
  pub count : tail.count ≡ mark.tail.count
  pub index : tail.index ≡ mark.tail.index

-- n periods that are left and repeat the one since the mark
pub record Repeats (mark : Mark) (tail : Tail) (k length count n : ℕ) : Type 0 where
  pub alike : (n ≡ 0) ⊎ AlikePeriod mark tail k length
  pub within : k + n * length ≤ count

-- the rows n periods later, each of which adds as many as the one since the mark
abbrev pub repeated : Mark → Tail → ℕ → Tail
repeated mark tail n = record { rows = tail.rows + n * (tail.rows - mark.tail.rows); count = tail.count; index = tail.index }

-- periods passed: the rows, the samples and the mark afterwards
pub record Passes (mark : Mark) (tail : Tail) (k length count room : ℕ) (t : Tail) (j : ℕ) (next : Mark) : Type 0 where
  pub periods : ℕ
  pub repeats : Repeats mark tail k length count periods
  pub rows : t ≡ repeated mark tail periods
  pub sample : j ≡ k + periods * length
  pub roomy : t.rows ≤ room
  pub marks : ((periods ≡ 0) × (next ≡ mark)) ⊎ (next ≡ record { sample = j; tail = t })

-- periods whose rows are too many
pub record Overfull (mark : Mark) (tail : Tail) (k length count room : ℕ) : Type 0 where
  pub periods : ℕ
  pub repeats : Repeats mark tail k length count periods
  pub full : room < (repeated mark tail periods).rows

abbrev pub GivesPassed : Mark → Tail → ℕ → ℕ → ℕ → ℕ → Option (Tail × ℕ × Mark) → Type 0
GivesPassed mark tail k length count room (Some (t, j, next)) = Passes mark tail k length count room t j next
GivesPassed mark tail k length count room None = Overfull mark tail k length count room
