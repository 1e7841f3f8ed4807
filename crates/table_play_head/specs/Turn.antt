-- What the calls of the code promise.
use Rattle.std.specs.Prelude.{ℕ, ◌+◌, ◌-◌, ◌<◌, ◌≤◌, ◌≡◌, List, [], ◌∷◌, drop}
use Rattle.std.proofs.Math.Option.{Option, none}
use Rattle.base_fields.specs.Answer as answer
use Rattle.base_fields.specs.Answer.{Answer, given, refused, and_then}
use Rattle.base_ids.specs.Limits.{record_limit}
use Rattle.table_rows.specs.Row.{Row, rows_of, covered, records_in, within_records}
use Rattle.table_rows.specs.Found.{told_index}
use Rattle.table_play_head.specs.Play.{PlayCall, set, move, play_end, last_sample, reach, row_at}
use Rattle.table_play_head.specs.Head.{Played, within_at, played_at, HeadMade}
use Rattle.table_play_head.specs.declared.PlayHead.{PlayHead}
use Rattle.table_play_head.specs.declared.row_walk.Walked.{Walked}
use Rattle.table_play_head.specs.declared.Turn.{Turn}

-- a walk of n samples over the rows `rest` from row i on
pub record GivesWalk (rest : List Row) (i n : ℕ) (r : Walked) : Type 0 where
  pub row : r.row ≡ i + row_at rest n
  pub within : r.within ≡ within_at rest n
  pub past : r.past ≡ n - covered rest

-- the head after a call; where there is no value, the one before it
abbrev pub head_left : Answer Played → PlayHead → PlayHead
head_left (given s) h = s.head
head_left answer.none h = h
head_left (refused n) h = h

-- a call's answer and the head afterwards, from head h on, where this is told
pub record GivesTurn (told : Answer Played) (h : PlayHead) (r : Turn) : Type 0 where
  pub found : told_index r.found ≡ and_then told (λ s. given s.index)
  pub head : r.head ≡ head_left told h

-- what a set tells, whatever the head: what is due at the sample that it reaches
abbrev pub set_told : List ℕ → ℕ → Answer Played
set_told l k = let rows = rows_of l in within_records (records_in l) (given (played_at rows (reach (play_end last_sample rows) none (set k))))

-- a move over a lent run. Its head was made by calls over rows `own`, of which those from the named one on are lent: it gives what is
-- due over `own`. So with `own` the lent rows it is the lookup's, and no row before the named one changes it. With another head, or
-- with other rows, only the index and the head are free: 55 stands, and there is no other refusal
pub record GivesMove (l : List ℕ) (h : PlayHead) (r : Turn) : Type 0 where
  pub too_many_records : record_limit < records_in l → GivesTurn (refused 55) h r
  pub answered : records_in l ≤ record_limit → (i : ℕ) × (told_index r.found ≡ given i)
  pub due : records_in l ≤ record_limit → (own : List Row) (at : Option ℕ) → HeadMade last_sample own at h
      → drop h.row own ≡ drop h.row (rows_of l)
      → GivesTurn (given (played_at own (reach (play_end last_sample own) at move))) h r

-- a list of calls over one run of numbers, each with a result that it promises
pub data PlayRun (l : List ℕ) : PlayHead → List PlayCall → List Turn → Type 0 where
  done : {h : PlayHead} → PlayRun l h [] []
  sets : {h : PlayHead} {k : ℕ} {r : Turn} {cs : List PlayCall} {rs : List Turn}
      → GivesTurn (set_told l k) h r → PlayRun l r.head cs rs → PlayRun l h (set k ∷ cs) (r ∷ rs)
  moves : {h : PlayHead} {r : Turn} {cs : List PlayCall} {rs : List Turn}
      → GivesMove l h r → PlayRun l r.head cs rs → PlayRun l h (move ∷ cs) (r ∷ rs)

-- what each result tells: the answer, and the head
pub record ToldTurn : Type 0 where
  pub found : Answer ℕ
  pub head : PlayHead

abbrev pub told_turn : Turn → ToldTurn
told_turn r = record { found = told_index r.found; head = r.head }
