-- Within a pattern: the rows so far and the samples to come decide the answer, and what samples entered one by one leave of that.
use Rattle.std.specs.Prelude.{◌≡◌, List, ◌++◌, ℕ, ◌-◌, ◌*◌, ◌≤◌, length}
use Rattle.base_fields.specs.Answer.{Answer}
use Rattle.table_rows.specs.Row.{Row, record_numbers}
use Rattle.table_rows.specs.Pattern.{Pattern, samples_from}
use Rattle.table_replay.specs.Records.{Written}
use Rattle.table_replay.specs.Replay.{replay}
use Rattle.table_replay.specs.Step.{StateOf}
use Rattle.table_replay.specs.declared.step.ReplayState.{ReplayState}

-- within pattern p, behind which the samples `rest` follow
pub record Within (answer : Answer (List Row)) (room : ℕ) (p : Pattern) (rest : List ℕ) (at : ReplayState) : Type 0 where
  pub rows : List Row
  pub state : StateOf p room rows at
  pub within : at.sample ≤ p.count
  pub decides : answer ≡ replay room rows (samples_from p at.sample (p.count - at.sample) ++ rest)

-- the same with the rows in front of the run l, which was e
pub record FillingWithin (answer : Answer (List Row)) (room : ℕ) (p : Pattern) (rest : List ℕ) (at : ReplayState) (e l : List ℕ) : Type 0 where
  pub within : Within answer room p rest at
  pub records : record_numbers * room ≤ length e
  pub written : Written e l within.rows

-- some samples were entered: what decided the answer still does
pub record Singly (p : Pattern) (room : ℕ) (at next : ReplayState) : Type 0 where
  pub onward : at.sample ≤ next.sample
  pub keeps : (answer : Answer (List Row)) (rest : List ℕ) → Within answer room p rest at → Within answer room p rest next

-- the same with their rows written, of a run l into l'
pub record SinglyWritten (p : Pattern) (room : ℕ) (at next : ReplayState) (l l' : List ℕ) : Type 0 where
  pub onward : at.sample ≤ next.sample
  pub keeps : (answer : Answer (List Row)) (rest e : List ℕ) → FillingWithin answer room p rest at e l → FillingWithin answer room p rest next e l'
