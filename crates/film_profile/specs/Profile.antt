-- What a call for the dome profile returns and leaves.
use Rattle.std.specs.Prelude.{ℕ, List, [], ◌∷◌}
use Rattle.base_fields.specs.Answer.{Answer}
use Rattle.use_profile.specs.Profile.{Verdict, meets, breaks, GivesVerdict}
use Rattle.use_profile.specs.File.{GivesFileVerdict}
use Rattle.film_status.specs.Status.{Returns}

-- 0, or the first rule broken, counted from 1
abbrev pub verdict_numbers : Verdict → List ℕ
verdict_numbers meets = 0 ∷ []
verdict_numbers (breaks n) = n ∷ []

-- there is one such verdict (the law `one_answer` of use_profile): its status, and its number in `out`
pub record ReturnsVerdict (s out out' : List ℕ) (r : ℕ) : Type 0 where
  pub told : Answer Verdict
  pub gives : GivesVerdict s told
  pub returned : Returns told verdict_numbers out out' r

-- of track k of a film (`one_file_answer`)
pub record ReturnsFileVerdict (s : List ℕ) (k : ℕ) (out out' : List ℕ) (r : ℕ) : Type 0 where
  pub told : Answer Verdict
  pub gives : GivesFileVerdict s k told
  pub returned : Returns told verdict_numbers out out' r
