-- What stands in front of a decoder's own answer, and what is read by number behind it.
use mathlib.Core.Path.{◌≡◌, ap, sym, ◌∙◌}
use mathlib.Core.List.{List}
use Prim.Native.Nat.{ℕ, ◌<◌, ◌≤◌}
use Rattle.std.specs.Prelude.{Result, Ok, Err}
use Rattle.std.specs.Result.{IsErr, IsErrAnd}
use Rattle.std.proofs.lemmas.Result.{err_from_is_err_and}
use lib.Dec.{ltb, leb}
use lib.ListN.{length}
use borrow.Author.Tests.{ltb-false, le-leb, lt-leb}
use Rattle.base_fields.specs.Answer.{Answer, given, none, refused, refuse_if, none_if, and_then, within, input_limit}
use Rattle.base_fields.specs.Refusal.{told_value}
use Rattle.base_fields.specs.declared.refusal.Refusal.{Refusal}
use Rattle.base_fields.proofs.Answers.{and_then-refuse_if, given-past, within_then}
use Rattle.group_entries.specs.Decoded.{by_number}
use Rattle.group_entries.specs.Told.{GivesLength}

-- the check of the length, and then the rest
module _ {s : List ℕ} {n : ℕ} {r : Result Unit Refusal} (e : GivesLength s n r) where
  pub checked : {A : Type 0} (rest : Answer A) {q : Result Unit Refusal} → r ≡ q → and_then (told_value q) (λ _. rest) ≡ within s (refuse_if (ltb (length s) n) 40 rest)
  checked rest p =
      within_then (refuse_if (ltb (length s) n) 40 (given tt)) (λ _. rest) s (ap told_value (sym p) ∙ e.told)
      ∙ ap (within s) (and_then-refuse_if (ltb (length s) n) 40 (given tt) (λ _. rest))

  pub enough : r ≡ Ok tt → (n ≤ length s) × (length s ≤ input_limit)
  enough p =
      let short = given-past (ltb input_limit (length s)) 55 (refuse_if (ltb (length s) n) 40 (given tt)) (sym (ap told_value (sym p) ∙ e.told)) in
      let least = given-past (ltb (length s) n) 40 (given tt) short.1 in
      (ltb-false (length s) n least.0, ltb-false input_limit (length s) short.0)

-- y is the answer x to the bytes s, behind 55
pub record ToldWithin {A : Type 0} (s : List ℕ) (x y : Answer A) : Type 0 where
  pub told : y ≡ within s x

-- what a decoder told, at the case that it is
pub told-at : {A D : Type 0} (told : D → Answer A) {s : List ℕ} {x : Answer A} {r q : D} → told r ≡ within s x → r ≡ q → ToldWithin s x (told q)
told-at told h e = record { told = ap told (sym e) ∙ h }

-- read by number, from the decoder's answer
module _ {A B : Type 0} {s : List ℕ} {x : Answer A} (count : A → ℕ) (k : ℕ) (b : B) where
  numbered : {y : Answer A} → ToldWithin s x y → and_then y (λ v. none_if (leb (count v) k) (given b)) ≡ within s (by_number x count k b)
  unfolding by_number
  numbered e = within_then x (λ v. none_if (leb (count v) k) (given b)) s e.told

  pub number-refused : {n : ℕ} → ToldWithin s x (refused n) → refused n ≡ within s (by_number x count k b)
  number-refused e = numbered e

  pub number-none : {v : A} → ToldWithin s x (given v) → count v ≤ k → none ≡ within s (by_number x count k b)
  number-none e h = simp (le-leb _ _ h) at (numbered e)

  pub number-given : {v : A} → ToldWithin s x (given v) → k < count v → given b ≡ within s (by_number x count k b)
  number-given e h = simp (lt-leb _ _ h) at (numbered e)

-- what an exit by `?` hands on
pub handed : {A : Type 0} {e : Refusal} {r : Result A Refusal} → IsErr r × IsErrAnd r (λ n. n ≡ e) → r ≡ Err e
handed {r = r} h = let x = err_from_is_err_and r h.1 in x.1 ∙ ap Err x.2
