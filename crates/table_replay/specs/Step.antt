-- One step of the replay within a pattern, and what it does to the rows so far.
use Rattle.std.specs.Prelude.{◌≡◌, ℕ, ◌-◌, ◌*◌, ◌≤◌, ◌<◌, List, Result, Ok, Err, length}
use Rattle.base_fields.specs.Answer.{given, refused}
use Rattle.base_fields.specs.Refusal.{number}
use Rattle.base_fields.specs.declared.refusal.Refusal.{Refusal}
use Rattle.base_ids.specs.Limits.{count_limit}
use Rattle.table_rows.specs.Row.{Row, record_numbers, put_row}
use Rattle.table_rows.specs.Pattern.{Pattern, samples_from}
use Rattle.table_patterns.specs.Run.{GivesRun}
use Rattle.table_patterns.specs.declared.PatternAt.{PatternAt}
use Rattle.table_patterns.specs.declared.run.Run.{Run}
use Rattle.table_replay.specs.Enter.{tail_of}
use Rattle.table_replay.specs.Records.{copied, Written}
use Rattle.table_replay.specs.Replay.{replay}
use Rattle.table_replay.specs.declared.enter.Tail.{Tail}
use Rattle.table_replay.specs.declared.periods.Mark.{Mark}
use Rattle.table_replay.specs.declared.step.ReplayState.{ReplayState}

-- before a pattern's first sample
abbrev pub start_of : Tail → ReplayState
start_of tail = record { tail = tail; sample = 0; mark = record { sample = 0; tail = tail } }

-- a mark: the rows there, of which the pattern's samples since made the present rows
pub record Marked (p : Pattern) (room k : ℕ) (rows : List Row) (mark : Mark) : Type 0 where
  pub before : List Row
  pub standing : mark.tail ≡ tail_of before
  pub behind : mark.sample ≤ k
  pub since : replay room before (samples_from p mark.sample (k - mark.sample)) ≡ given rows

-- a state within pattern p, where `rows` stand
pub record StateOf (p : Pattern) (room : ℕ) (rows : List Row) (at : ReplayState) : Type 0 where
  pub standing : at.tail ≡ tail_of rows
  pub small : at.tail.count ≤ count_limit
  pub roomy : length rows ≤ room
  pub marked : Marked p room at.sample rows at.mark

-- pattern p has the length and the count that are told at its place, and the run r comes next in it
pub record NextRun (p : Pattern) (pattern : PatternAt) (at : ReplayState) (r : Run) : Type 0 where
  pub some : 0 < pattern.length
  pub indices : pattern.length ≡ length p.indices
  pub count : pattern.count ≡ p.count
  pub run : GivesRun p at.sample r

-- a run of numbers after the rows of a step were copied, from the mark's last row on, and its last row was put
abbrev pub put_step : ReplayState → ReplayState → ℕ → List ℕ → List ℕ
put_step at next stood l =
    let t = next.tail in
    put_row (t.rows - 1) t.count t.index (copied (t.rows - stood) (at.mark.tail.rows - 1) (stood - 1) l)

-- where `rows` stood, the samples passed are entered one by one
pub record Steps (p : Pattern) (room : ℕ) (rows : List Row) (at next : ReplayState) (stood : ℕ) : Type 0 where
  pub out : List Row
  pub replays : replay room rows (samples_from p at.sample (next.sample - at.sample)) ≡ given out
  pub state : StateOf p room out next
  pub some : 0 < next.tail.rows
  pub copies : stood < next.tail.rows → (0 < at.mark.tail.rows) × (at.mark.tail.rows ≤ stood)
  pub written : (e l : List ℕ) → record_numbers * room ≤ length e → Written e l rows → Written e (put_step at next stood l) out

-- the samples from a state on to the pattern's end cannot all be entered
abbrev pub Refuses : Pattern → ℕ → ReplayState → ℕ → Type 0
Refuses p room at code =
    (rows : List Row) → StateOf p room rows at → replay room rows (samples_from p at.sample (p.count - at.sample)) ≡ refused code

pub record Goes (p : Pattern) (room : ℕ) (at next : ReplayState) (stood : ℕ) : Type 0 where
  pub some : at.sample < next.sample
  pub within : next.sample ≤ p.count
  pub steps : (rows : List Row) → StateOf p room rows at → Steps p room rows at next stood

abbrev pub GivesStep : Pattern → ℕ → ReplayState → Result (ReplayState × ℕ) Refusal → Type 0
GivesStep p room at (Ok (next, stood)) = Goes p room at next stood
GivesStep p room at (Err e) = Refuses p room at (number e)
