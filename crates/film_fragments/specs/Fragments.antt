-- What the calls on a queue of fragments return and hand out.
use Rattle.std.specs.Prelude.{ℕ, ◌≡◌, List, [], ◌∷◌}
use Rattle.base_fields.specs.Answer.{Answer}
use Rattle.use_fragment_queue.specs.Held.{QueueCall, FragmentPlace}
use Rattle.use_fragment_queue.specs.Ring.{held_count, covered_sum_of, member_sum}
use Rattle.use_fragment_queue.specs.Queued.{GivesQueue, GivesPlace}
use Rattle.film_status.specs.Status.{status_of, Returns}

-- the status of what a call on the queue told
pub record GivesCall (c : QueueCall) (before after : List ℕ) (r : ℕ) : Type 0 where
  pub told : Answer Unit
  pub queue : GivesQueue c before after told
  pub status : r ≡ status_of told

abbrev pub place_numbers : FragmentPlace → List ℕ
place_numbers p = p.fragment ∷ p.sample ∷ []

-- a lookup: its status, and what it found in `out`
pub record GivesLookup (q : List ℕ) (k : ℕ) (out out' : List ℕ) (r : ℕ) : Type 0 where
  pub told : Answer FragmentPlace
  pub place : GivesPlace q k told
  pub returned : Returns told place_numbers out out' r

-- how many are held, and both sums
abbrev pub sum_numbers : List ℕ → List ℕ
sum_numbers q = held_count q ∷ covered_sum_of q ∷ member_sum q ∷ []

-- a list of calls from one queue on, each with a status that it promises
pub data FragmentCalls : List ℕ → List QueueCall → List ℕ → List ℕ → Type 0 where
  ended : {q : List ℕ} → FragmentCalls q [] [] q
  called : {q after last : List ℕ} {c : QueueCall} {r : ℕ} {cs : List QueueCall} {rs : List ℕ}
      → GivesCall c q after r → FragmentCalls after cs rs last → FragmentCalls q (c ∷ cs) (r ∷ rs) last
