-- What a call of the queue told is handed out: y is what the call gave, and the match found it to be r.
use Rattle.std.specs.Prelude.{Result}
use Prim.Native.Nat.{ℕ}
use mathlib.Core.Path.{◌≡◌, refl, ap, sym}
use mathlib.Core.List.{List}
use Rattle.base_fields.specs.Refusal.{told_value}
use Rattle.base_fields.specs.declared.refusal.Refusal.{Refusal}
use Rattle.use_fragment_queue.specs.Held.{QueueCall}
use Rattle.use_fragment_queue.specs.Queued.{GivesQueue, GivesPlace, told_located}
use Rattle.use_fragment_queue.specs.declared.Place.{Place}
use Rattle.film_status.specs.Status.{status_of, stored}
use Rattle.film_status.proofs.Returned.{returned}
use Rattle.film_fragments.specs.Fragments.{GivesCall, GivesLookup, place_numbers}

pub gives-call : {c : QueueCall} {before after : List ℕ} {y r : Result Unit Refusal} → GivesQueue c before after (told_value y) → y ≡ r
    → GivesCall c before after (status_of (told_value r))
gives-call {y = y} g p = record { told = told_value y; queue = g; status = ap (λ (z : Result Unit Refusal). status_of (told_value z)) (sym p) }

pub gives-lookup : {q : List ℕ} {k : ℕ} {y r : Result Place Refusal} {out : List ℕ} → GivesPlace q k (told_located y) → y ≡ r
    → GivesLookup q k out (stored place_numbers (told_located r) out) (status_of (told_located r))
gives-lookup {y = y} g p = record { told = told_located y; place = g; returned = returned told_located refl p }
