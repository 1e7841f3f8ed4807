-- A12's promise for every list of calls, from what each call promises alone.
use mathlib.Core.Path.{◌≡◌, refl}
use Prim.Native.Nat.{ℕ}
use mathlib.Core.List.{List, [], ◌∷◌}
use Rattle.base_fields.specs.Answer.{Answer}
use Rattle.use_fragment_queue.specs.Held.{Fragment, QueueCall, call_held, kept, held_after, answers_held, covered_held, members_held, FragmentPlace, fragment_at}
use Rattle.use_fragment_queue.specs.Ring.{first_slot, held_count, covered_sum_of, member_sum, QueueEmpty, ring, QueueMade}
use Rattle.use_fragment_queue.specs.Queued.{GivesPlace, QueueCalls, ended, called}
use Rattle.use_fragment_queue.proofs.Queue.{empty-made}

pub run-made : {held : List Fragment} {q last : List ℕ} {cs : List QueueCall} {told : List (Answer Unit)} → QueueMade held q → QueueCalls q cs told last
    → QueueMade (held_after held cs) last
unfolding held_after
run-made m ended = m
run-made {held = held} m (called {q = q} {after = after} {last = last} {c = c} {told = told} {cs = cs} {later = later} g run) = run-made {held = kept (call_held held c) held} (g.due held m).made run

pub run-told : {held : List Fragment} {q last : List ℕ} {cs : List QueueCall} {told : List (Answer Unit)} → QueueMade held q → QueueCalls q cs told last
    → told ≡ answers_held held cs
unfolding answers_held
run-told m ended = refl
run-told {held = held} m (called {q = q} {after = after} {last = last} {c = c} {told = told} {cs = cs} {later = later} g run) = λ t. (g.due held m).answer t ∷ run-told {held = kept (call_held held c) held} (g.due held m).made run t

-- from an empty queue: the answers due, the slots in ring order those held, and the sums a recount
module _ {q last : List ℕ} (empty : QueueEmpty q) {cs : List QueueCall} {told : List (Answer Unit)} (run : QueueCalls q cs told last) where
  pub run-held : QueueMade (held_after [] cs) last
  run-held = run-made (empty-made empty) run

  pub run-answers : told ≡ answers_held [] cs
  run-answers = run-told (empty-made empty) run

  pub run-reads : ring last (first_slot last) (held_count last) ≡ held_after [] cs
  run-reads = run-held.reads

  pub run-covered : covered_sum_of last ≡ covered_held (held_after [] cs)
  run-covered = run-held.covered

  pub run-members : member_sum last ≡ members_held (held_after [] cs)
  run-members = run-held.members

  pub run-lookup : (k : ℕ) (a : Answer FragmentPlace) → GivesPlace last k a → a ≡ fragment_at (held_after [] cs) k
  run-lookup k a p = p (held_after [] cs) run-held
