-- What a call for a cue listing returns and leaves.
use Rattle.std.specs.Prelude.{ℕ, ◌≡◌, List, [], ◌∷◌}
use Rattle.base_fields.specs.Answer.{Answer}
use Rattle.listing_spec.specs.Cue.{Cue, Lengths, reported, rows_after, output_after}
use Rattle.film_status.specs.Status.{Returns}

-- the listing's length, the row count
abbrev pub length_numbers : Lengths → List ℕ
length_numbers n = n.listing ∷ n.rows ∷ []

-- the status and `out` as elsewhere; the rows and the listing in front of what was lent for them, or both as they were
pub record Lists (told : Answer Cue) (numbers numbers' bytes bytes' out out' : List ℕ) (r : ℕ) : Type 0 where
  pub returned : Returns (reported told) length_numbers out out' r
  pub rows : numbers' ≡ rows_after told numbers
  pub listing : bytes' ≡ output_after told bytes
