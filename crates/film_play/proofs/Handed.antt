-- What the calls hand out is what the play head's calls promise; and the numbers of a head are that head.
use mathlib.Core.Path.{◌≡◌, refl}
use Prim.Native.Nat.{ℕ}
use native.Mathlib.Omega.{arith}
use mathlib.Core.Bool.{Bool, true, false}
use mathlib.Core.List.{List, [], ◌∷◌}
use lib.ListN.{length}
use lib.Seq.{sets}
use Rattle.std.specs.Prelude.{Ok}
use Rattle.base_fields.specs.Answer as answer
use Rattle.base_fields.specs.Answer.{Answer, given, refused}
use Rattle.base_ids.specs.declared.DescriptionIndex.{DescriptionIndex}
use Rattle.table_play_head.specs.Head.{Played, fresh_head}
use Rattle.table_play_head.specs.Turn.{GivesTurn, GivesMove}
use Rattle.table_play_head.specs.declared.PlayHead.{PlayHead}
use Rattle.table_play_head.specs.declared.Turn.{Turn}
use Rattle.film_play.specs.Play.{head_in_numbers, head_numbers, told_played, GivesPlay, GivesPlayMove}

-- the head that the numbers of a head are
pub head_in : (h : PlayHead) → head_in_numbers (head_numbers h) ≡ h
head_in h = by h.fresh
  where
    by : (f : Bool) → let g : PlayHead = record { fresh = f; sample = h.sample; row = h.row; within = h.within } in head_in_numbers (head_numbers g) ≡ g
    by true = refl
    by false = refl

pub zeros_fresh : head_in_numbers (0 ∷ 0 ∷ 0 ∷ 0 ∷ []) ≡ fresh_head
zeros_fresh = refl

-- over four numbers the four of a head are all that is left
pub all-four : (l : List ℕ) (h : PlayHead) → length l ≡ 4 → sets l 0 (head_numbers h) ≡ head_numbers h
all-four (a ∷ b ∷ c ∷ d ∷ []) h e = refl
all-four [] h e = absurd (omega (arith, e))
all-four (a ∷ []) h e = absurd (omega (arith, e))
all-four (a ∷ b ∷ []) h e = absurd (omega (arith, e))
all-four (a ∷ b ∷ c ∷ []) h e = absurd (omega (arith, e))
all-four (a ∷ b ∷ c ∷ d ∷ x ∷ l) h e = absurd (omega (arith, e))

-- what a call gave is what its contract tells
pub told_is : {told : Answer Played} {h : PlayHead} {t : Turn} → GivesTurn told h t → told_played t ≡ told
told_is {told} {h} {t} g = by told g
  where
    by : (told : Answer Played) → GivesTurn told h t → told_played t ≡ told
    by (given s) g = rw (g.found, g.head) refl
    by answer.none g = rw g.found refl
    by (refused n) g = rw g.found refl

-- an index is handed out with its head
pub hands_index : {head head' out : List ℕ} (t : Turn) {i : DescriptionIndex} → t.found ≡ Ok i → head' ≡ sets head 0 (head_numbers t.head)
    → GivesPlay (told_played t) head head' out (sets out 0 (i.0 ∷ [])) 0
hands_index t e q = rw e (record { returned = record { status = refl; out = refl }; left = q })

module _ {l head head' out out' : List ℕ} {t : Turn} {r : ℕ} (m : GivesMove l (head_in_numbers head) t) (p : GivesPlay (told_played t) head head' out out' r) where
  as_told : {told : Answer Played} → GivesTurn told (head_in_numbers head) t → GivesPlay told head head' out out' r
  as_told g = rw (told_is g) at p

  pub hands_move : GivesPlayMove l head head' out out' r
  hands_move =
      record {
        too_many_records = λ many. as_told (m.too_many_records many);
        answered = λ few. rw (m.answered few).1 at p.returned.status;
        due = λ few own at made e. as_told (m.due few own at made e);
      }
