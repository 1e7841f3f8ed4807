-- A12's promise for every list of calls of the C functions, from their contracts alone.
use Prim.Native.Nat.{ℕ}
use mathlib.Core.Path.{◌≡◌, refl, ap, subst, ◌∙◌}
use mathlib.Core.List.{List, [], ◌∷◌, map}
use lib.ListN.{length}
use Rattle.base_fields.specs.Answer.{Answer}
use Rattle.use_fragment_queue.specs.Held.{Fragment, QueueCall, call_held, kept, held_after, answers_held, covered_held, members_held, fragment_at}
use Rattle.use_fragment_queue.specs.Ring.{QueueEmpty, QueueMade}
use Rattle.use_fragment_queue.proofs.Queue.{empty-made}
use Rattle.film_status.specs.Status.{status_of, Returns}
use Rattle.film_fragments.specs.Fragments.{GivesLookup, FragmentCalls, ended, called, place_numbers, sum_numbers}

calls-made : {held : List Fragment} {q last : List ℕ} {cs : List QueueCall} {rs : List ℕ} → QueueMade held q → FragmentCalls q cs rs last → QueueMade (held_after held cs) last
unfolding held_after
calls-made m ended = m
calls-made {held = held} m (called {c = c} g run) = calls-made {held = kept (call_held held c) held} (g.queue.due held m).made run

calls-told : {held : List Fragment} {q last : List ℕ} {cs : List QueueCall} {rs : List ℕ} → QueueMade held q → FragmentCalls q cs rs last
    → rs ≡ map (λ (a : Answer Unit). status_of a) (answers_held held cs)
unfolding answers_held
calls-told m ended = refl
calls-told {held = held} m (called {c = c} g run) =
    λ t. (g.status ∙ ap (λ (a : Answer Unit). status_of a) (g.queue.due held m).answer) t ∷ calls-told {held = kept (call_held held c) held} (g.queue.due held m).made run t

-- from a queue of four zeros: the statuses due, the sums a recount, and a lookup over the fragments held
module _ {q last : List ℕ} (empty : QueueEmpty q) {cs : List QueueCall} {rs : List ℕ} (run : FragmentCalls q cs rs last) where
  abbrev held : List Fragment
  held = held_after [] cs

  made : QueueMade held last
  made = calls-made (empty-made empty) run

  pub calls-status : rs ≡ map (λ (a : Answer Unit). status_of a) (answers_held [] cs)
  calls-status = calls-told (empty-made empty) run

  pub calls_sums : sum_numbers last ≡ length held ∷ covered_held held ∷ members_held held ∷ []
  calls_sums = λ t. made.count t ∷ made.covered t ∷ made.members t ∷ []

  pub calls-lookup : {k : ℕ} {out out' : List ℕ} {r : ℕ} → GivesLookup last k out out' r → Returns (fragment_at held k) place_numbers out out' r
  calls-lookup {out = out} {out'} {r} g = subst (λ told. Returns told place_numbers out out' r) (g.place held made) g.returned
