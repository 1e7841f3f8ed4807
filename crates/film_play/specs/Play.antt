-- A play head as four numbers of C, and what the two calls leave in them and in `out`.
use Rattle.std.specs.Prelude.{ℕ, ◌<◌, ◌≤◌, ◌≡◌, List, [], ◌∷◌, eqb, get_or, drop}
use Rattle.std.proofs.Math.Option.{Option}
use Rattle.base_fields.specs.Answer.{Answer, given, refused, and_then, choose}
use Rattle.base_ids.specs.Limits.{record_limit}
use Rattle.table_rows.specs.Row.{Row, rows_of, records_in, index_at}
use Rattle.table_rows.specs.Found.{told_index}
use Rattle.table_play_head.specs.Play.{PlayCall, set, move, play_end, last_sample, reach}
use Rattle.table_play_head.specs.Head.{Played, head_on, played_at, HeadMade}
use Rattle.table_play_head.specs.Turn.{set_told}
use Rattle.table_play_head.specs.declared.PlayHead.{PlayHead}
use Rattle.table_play_head.specs.declared.Turn.{Turn}
use Rattle.film_status.specs.Status.{stored, Returns, one_number}

-- whether it stands at a sample (0: fresh; any other: at a sample), the sample, the row, the samples of that row before it
abbrev pub head_in_numbers : List ℕ → PlayHead
head_in_numbers l = record { fresh = eqb (get_or l 0 0) 0; sample = get_or l 1 0; row = get_or l 2 0; within = get_or l 3 0 }

abbrev pub head_numbers : PlayHead → List ℕ
head_numbers h = choose h.fresh 0 1 ∷ h.sample ∷ h.row ∷ h.within ∷ []

-- what a call gave
abbrev pub told_played : Turn → Answer Played
told_played t = and_then (told_index t.found) (λ i. given (record { head = t.head; index = i }))

abbrev pub played_numbers : Played → List ℕ
played_numbers s = head_numbers s.head

-- where this is told: the status, the index in `out`, and the numbers of the head. With a refusal both stay
pub record GivesPlay (told : Answer Played) (head head' out out' : List ℕ) (r : ℕ) : Type 0 where
  pub returned : Returns (and_then told (λ s. given s.index)) one_number out out' r
  pub left : head' ≡ stored played_numbers told head

-- a move. Over too many records it is 55, and nothing is written. Else its status is 0; and where the head was made by calls over rows
-- `own`, of which those from the named one on are lent, it gives what is due over `own`
pub record GivesPlayMove (l head head' out out' : List ℕ) (r : ℕ) : Type 0 where
  pub too_many_records : record_limit < records_in l → GivesPlay (refused 55) head head' out out' r
  pub answered : records_in l ≤ record_limit → r ≡ 0
  pub due : records_in l ≤ record_limit → (own : List Row) (at : Option ℕ) → HeadMade last_sample own at (head_in_numbers head)
      → drop (head_in_numbers head).row own ≡ drop (head_in_numbers head).row (rows_of l)
      → GivesPlay (given (played_at own (reach (play_end last_sample own) at move))) head head' out out' r

-- what a call left: the status, `out` and the head
pub record Left : Type 0 where
  pub status : ℕ
  pub out : List ℕ
  pub head : List ℕ

-- a list of calls over one run of numbers, each with a result that it promises, whatever the number in `out` was before
pub data PlayCalls (l : List ℕ) : List ℕ → List PlayCall → List Left → Type 0 where
  done : {head : List ℕ} → PlayCalls l head [] []
  sets : {head : List ℕ} {n k : ℕ} {r : Left} {cs : List PlayCall} {rs : List Left}
      → GivesPlay (set_told l k) head r.head (n ∷ []) r.out r.status → PlayCalls l r.head cs rs → PlayCalls l head (set k ∷ cs) (r ∷ rs)
  moves : {head : List ℕ} {n : ℕ} {r : Left} {cs : List PlayCall} {rs : List Left}
      → GivesPlayMove l head r.head (n ∷ []) r.out r.status → PlayCalls l r.head cs rs → PlayCalls l head (move ∷ cs) (r ∷ rs)

-- what is due at sample k: status 0, the lookup's index, and a head that names the row covering it
abbrev pub left_at : List ℕ → ℕ → Left
left_at l k = record { status = 0; out = index_at (rows_of l) k ∷ []; head = head_numbers (head_on (rows_of l) k) }
