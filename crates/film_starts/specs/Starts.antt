-- What a call for a start returns and leaves.
use Rattle.std.specs.Prelude.{ℕ, List}
use Rattle.base_fields.specs.Answer.{Answer}
use Rattle.use_decode_start.specs.Start.{GivesStart}
use Rattle.film_status.specs.Status.{Returns, one_number}

-- there is one such answer (the law `one_answer` of use_decode_start): its status, and the sample in `out`
pub record ReturnsStart (s : List ℕ) (t wanted : ℕ) (out out' : List ℕ) (r : ℕ) : Type 0 where
  pub answer : Answer ℕ
  pub gives : GivesStart s t wanted answer
  pub returned : Returns answer one_number out out' r
