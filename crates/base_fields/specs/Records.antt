-- A lent run of numbers that a call fills from the front with records of two numbers each.
use Rattle.std.specs.Prelude.{ℕ, Result, ◌/◌, ◌≡◌, List, [], ◌∷◌, ltb, length}
use Rattle.base_fields.specs.Answer.{Answer, given, refuse_if, and_then, overwritten}
use Rattle.base_fields.specs.Refusal.{told_value}
use Rattle.base_fields.specs.declared.refusal.Refusal.{Refusal}

-- the numbers of values, two of each
unfoldable pub numbers_of : {A : Type 0} → (A → ℕ) → (A → ℕ) → List A → List ℕ
numbers_of f g [] = []
numbers_of f g (a ∷ l) = f a ∷ g a ∷ numbers_of f g l

-- values for which a run has records enough: 29 where there are more values than records
abbrev pub room_for : {A : Type 0} → List ℕ → List A → Answer (List A)
room_for run l = refuse_if (ltb (length run / 2) (length l)) 29 (given l)

-- how many values there are, and their numbers in front of the run; without an answer's values the run stays as it was
pub record GivesRecords {A : Type 0} (told : Answer (List A)) (f g : A → ℕ) (before after : List ℕ) (r : Result ℕ Refusal) : Type 0 where
  pub answer : told_value r ≡ and_then told (λ l. given (length l))
  pub run : after ≡ overwritten (numbers_of f g) told before
