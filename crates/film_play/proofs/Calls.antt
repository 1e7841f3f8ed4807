-- A8's promise for every list of calls of the C interface, from what each call promises.
use mathlib.Core.Path.{◌≡◌, refl, ap, ◌∙◌}
use Prim.Native.Nat.{ℕ, ◌≤◌}
use borrow.Author.Tests.{le-ltb}
use mathlib.Core.List.{List, [], ◌∷◌, map}
use mathlib.Core.Option.{Option, none, some}
use lib.ListN.{length}
use Rattle.base_fields.specs.Answer.{given}
use Rattle.base_ids.specs.Limits.{record_limit}
use Rattle.table_rows.specs.Row.{rows_of, records_in}
use Rattle.table_play_head.specs.Play.{PlayCall, set, move, play_end, last_sample, reach, samples_reached}
use Rattle.table_play_head.specs.Head.{head_on, played_at, HeadMade}
use Rattle.table_play_head.proofs.Play.{reach-inside, fresh_made}
use Rattle.film_play.specs.Play.{head_in_numbers, GivesPlay, Left, PlayCalls, done, sets, moves, left_at}
use Rattle.film_play.proofs.Handed.{head_in, all-four}

module _ (l : List ℕ) (few : records_in l ≤ record_limit) where
  abbrev end : ℕ
  end = play_end last_sample (rows_of l)

  left_is : (k : ℕ) {n : ℕ} {head : List ℕ} {r : Left} → length head ≡ 4
      → GivesPlay (given (played_at (rows_of l) k)) head r.head (n ∷ []) r.out r.status → r ≡ left_at l k
  left_is k {head = head} f g i = record { status = g.returned.status i; out = g.returned.out i; head = (g.left ∙ all-four head (head_on (rows_of l) k) f) i }

  left-made : (k : ℕ) {r : Left} → k ≤ end → r ≡ left_at l k → HeadMade last_sample (rows_of l) (some k) (head_in_numbers r.head)
  left-made k h e = record { inside = h; stands = ap (λ (r : Left). head_in_numbers r.head) e ∙ head_in (head_on (rows_of l) k) }

  calls-made : (at : Option ℕ) {head : List ℕ} {cs : List PlayCall} {rs : List Left} → length head ≡ 4 → HeadMade last_sample (rows_of l) at (head_in_numbers head)
      → PlayCalls l head cs rs → rs ≡ map (left_at l) (samples_reached end at cs)
  unfolding samples_reached
  calls-made at f m done = refl
  calls-made at {head} f m (sets {n = n} {k = k} {r = r} s run) =
      let to = reach end at (set k) in
      let t : GivesPlay (given (played_at (rows_of l) to)) head r.head (n ∷ []) r.out r.status = rw (le-ltb record_limit (records_in l) few) at s in
      let e = left_is to f t in
      λ i. e i ∷ calls-made (some to) (ap (λ (r : Left). length r.head) e) (left-made to (reach-inside last_sample (rows_of l) at (set k)) e) run i
  calls-made at f m (moves s run) =
      let to = reach end at move in
      let e = left_is to f (s.due few (rows_of l) at m refl) in
      λ i. e i ∷ calls-made (some to) (ap (λ (r : Left). length r.head) e) (left-made to (reach-inside last_sample (rows_of l) at move) e) run i

  -- from four zeros each call leaves the lookup's index at the sample reached, and a head that names the row covering it
  pub calls-lookup : {cs : List PlayCall} {rs : List Left} → PlayCalls l (0 ∷ 0 ∷ 0 ∷ 0 ∷ []) cs rs → rs ≡ map (left_at l) (samples_reached end none cs)
  calls-lookup run = calls-made none refl (fresh_made last_sample (rows_of l)) run
