-- The replay by runs: the rows so far stand in a tail, their number and the last one's count and index.
use Rattle.std.specs.Prelude.{◌≡◌, ℕ, ◌+◌, ◌-◌, ◌≤◌, ◌<◌, List, [], ◌∷◌, Option, Some, None, ltb, leb, eqb, length}
use Rattle.base_fields.specs.Answer.{Answer, given, choose, refuse_if}
use Rattle.table_rows.specs.Row.{Row}
use Rattle.base_ids.specs.Limits.{count_limit}
use Rattle.table_replay.specs.declared.enter.Tail.{Tail}

-- the tail of rows, the last one first
abbrev pub tail_of : List Row → Tail
tail_of [] = record { rows = 0; count = 0; index = 0 }
tail_of (r ∷ rs) = record { rows = length (r ∷ rs); count = r.count; index = r.index }

-- n samples of index i join the last row, or begin a new one
abbrev pub join_run : Tail → ℕ → ℕ → Answer Tail
join_run t n i = refuse_if (ltb count_limit (t.count + n)) 28 (given (record { rows = t.rows; count = t.count + n; index = i }))

abbrev pub begin_run : ℕ → Tail → ℕ → ℕ → Answer Tail
begin_run room t n i = refuse_if (leb room t.rows) 29 (given (record { rows = t.rows + 1; count = n; index = i }))

abbrev pub enter_run : ℕ → Tail → ℕ → ℕ → Answer Tail
enter_run room t n i = choose (ltb 0 t.rows) (choose (eqb t.index i) (join_run t n i) (begin_run room t n i)) (begin_run room t n i)

-- one sample of index i entered, or left for the runs
pub record Entering (room : ℕ) (t : Tail) (i : ℕ) (next : Tail) : Type 0 where
  pub enters : given next ≡ enter_run room t 1 i
  pub some : 0 < next.rows
  pub roomy : t.rows ≤ room → next.rows ≤ room

abbrev pub GivesSingle : ℕ → Tail → ℕ → Option Tail → Type 0
GivesSingle room t i (Some next) = Entering room t i next
GivesSingle room t i None = Unit

-- the last sample of a period, or of `count` samples, from sample k on, which has `turn` samples of its period before it
pub record LastOf (length count k turn last : ℕ) : Type 0 where
  pub onward : k ≤ last
  pub within : last < count
  pub period : turn + (last - k) < length
