-- Document 01's answer for a call's result, and what the call leaves in lent memory.
use Rattle.std.specs.Prelude.{ℕ, ◌≡◌, List, Result}
use Rattle.base_fields.specs.Answer.{Answer}
use Rattle.base_fields.specs.Refusal.{told}
use Rattle.base_fields.specs.declared.refusal.Refusal.{Refusal}
use Rattle.listing_spec.specs.Cue.{Cue, Lengths, reported, rows_after, output_after}
use Rattle.listing_cue.specs.declared.CueLengths.{CueLengths}

abbrev pub lengths_of : CueLengths → Lengths
lengths_of n = record { listing = n.listing; rows = n.rows }

abbrev pub told_cue : Result CueLengths Refusal → Answer Lengths
told_cue = told lengths_of

-- a call's result, and the run of numbers and the output before and after it, where the answer is `answered`
pub record GivesCue (answered : Answer Cue) (numbers numbers' out out' : List ℕ) (r : Result CueLengths Refusal) : Type 0 where
  pub answer : told_cue r ≡ reported answered
  pub rows : numbers' ≡ rows_after answered numbers
  pub output : out' ≡ output_after answered out
