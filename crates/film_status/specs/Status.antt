-- What a function of the C interface returns and what it writes: 0 and the numbers of a value, 255 for none and done, else the number of
-- the refusal. Only with 0 is anything stored.
use Rattle.std.specs.Prelude.{ℕ, ◌≡◌, Bool, true, false, List, [], ◌∷◌, length}
use Rattle.std.proofs.lemmas.List.Edits.{sets}
use Rattle.base_fields.specs.Answer.{Answer, given, none, refused, and_then, overwritten}
use Rattle.base_fields.specs.Records.{numbers_of}
use Rattle.base_fields.specs.Span.{Span}

abbrev pub status_of : {A : Type 0} → Answer A → ℕ
status_of (given a) = 0
status_of none = 255
status_of (refused n) = n

-- the numbers of a value stored from place 0 on; every other number stays
abbrev pub stored : {A N : Type 0} → (A → List N) → Answer A → List N → List N
stored numbers (given a) out = sets out 0 (numbers a)
stored numbers none out = out
stored numbers (refused n) out = out

pub record Returns {A N : Type 0} (told : Answer A) (numbers : A → List N) (before after : List N) (r : ℕ) : Type 0 where
  pub status : r ≡ status_of told
  pub out : after ≡ stored numbers told before

abbrev pub one_number : ℕ → List ℕ
one_number n = n ∷ []

-- the status, and in `out` how many values there are; their numbers, two of each, in front of the lent run, or the run as it was
pub record FillsRecords {A : Type 0} (told : Answer (List A)) (f g : A → ℕ) (run run' out out' : List ℕ) (r : ℕ) : Type 0 where
  pub returned : Returns (and_then told (λ l. given (length l))) one_number out out' r
  pub filled : run' ≡ overwritten (numbers_of f g) told run

-- place and length of a body
abbrev pub body_numbers : Span → List ℕ
body_numbers b = b.place ∷ b.size ∷ []

abbrev pub bit : Bool → ℕ
bit true = 1
bit false = 0
