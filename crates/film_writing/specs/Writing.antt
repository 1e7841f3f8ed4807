-- What a write returns and leaves.
use Rattle.std.specs.Prelude.{ℕ, ◌≡◌, List, length}
use Rattle.base_fields.specs.Answer.{Answer, given, and_then, overwritten}
use Rattle.film_status.specs.Status.{Returns, one_number}

-- the status and `out` as elsewhere; the bytes in front of what was lent for them, or all of it as it was
pub record Writes (told : Answer (List ℕ)) (body body' out out' : List ℕ) (r : ℕ) : Type 0 where
  pub returned : Returns (and_then told (λ b. given (length b))) one_number out out' r
  pub written : body' ≡ overwritten (λ b. b) told body
