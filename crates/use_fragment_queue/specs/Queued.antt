-- What the calls promise over the numbers of a queue.
use Rattle.std.specs.Prelude.{◌≡◌, ℕ, ltb, List, [], ◌∷◌, Result}
use Rattle.base_fields.specs.Answer.{Answer, given, refused, refuse_if}
use Rattle.base_fields.specs.Refusal.{told}
use Rattle.base_fields.specs.declared.refusal.Refusal.{Refusal}
use Rattle.table_rows.specs.Row.{Row, covered}
use Rattle.use_fragment_queue.specs.Held.{Fragment, fragment_of, cover_limit, QueueCall, call_held, kept, accepting, FragmentPlace, fragment_at}
use Rattle.use_fragment_queue.specs.Ring.{call_queue, QueueMade}
use Rattle.use_fragment_queue.specs.declared.row_count.FragmentSamples.{FragmentSamples}
use Rattle.use_fragment_queue.specs.declared.Place.{Place}

-- a call on a queue that holds these fragments: the answer due, a queue that holds those due afterwards, and every number of it
pub record QueueDue (held : List Fragment) (c : QueueCall) (before after : List ℕ) (told : Answer Unit) : Type 0 where
  pub answer : told ≡ accepting (call_held held c)
  pub made : QueueMade (kept (call_held held c) held) after
  pub exact : after ≡ kept (call_queue before c) before

-- a call on a queue: what is due where the queue was made by calls; else the answer is free. A refused call alters nothing, whatever the queue
pub record GivesQueue (c : QueueCall) (before after : List ℕ) (told : Answer Unit) : Type 0 where
  pub due : (held : List Fragment) → QueueMade held before → QueueDue held c before after told
  pub stays : (n : ℕ) → told ≡ refused n → after ≡ before

-- a lookup in a queue made by calls; else the answer is free
abbrev pub GivesPlace : List ℕ → ℕ → Answer FragmentPlace → Type 0
GivesPlace q k told = (held : List Fragment) → QueueMade held q → told ≡ fragment_at held k

abbrev pub told_located : Result Place Refusal → Answer FragmentPlace
told_located = told (λ p. record { fragment = p.fragment; sample = p.sample })

-- the fragment that rows are: 28 where they cover too many samples
abbrev pub counts : List Row → Answer Fragment
counts rows = refuse_if (ltb cover_limit (covered rows)) 28 (given (fragment_of rows))

abbrev pub told_counted : Result FragmentSamples Refusal → Answer Fragment
told_counted = told (λ f. record { covered = f.covered; members = f.members })

-- a list of calls from one queue on, each with an answer that it promises
pub data QueueCalls : List ℕ → List QueueCall → List (Answer Unit) → List ℕ → Type 0 where
  ended : {q : List ℕ} → QueueCalls q [] [] q
  called : {q after last : List ℕ} {c : QueueCall} {told : Answer Unit} {cs : List QueueCall} {later : List (Answer Unit)}
      → GivesQueue c q after told → QueueCalls after cs later last → QueueCalls q (c ∷ cs) (told ∷ later) last
