-- From a listing's contract and the lengths that are handed out to what a call for a listing returns and leaves.
use Prim.Native.Nat.{ℕ}
use mathlib.Core.List.{List}
use Rattle.std.specs.Prelude.{Result}
use Rattle.base_fields.specs.Answer.{Answer}
use Rattle.base_fields.specs.declared.refusal.Refusal.{Refusal}
use Rattle.listing_spec.specs.Cue.{Cue}
use Rattle.listing_cue.specs.Told.{told_cue, GivesCue}
use Rattle.listing_cue.specs.declared.CueLengths.{CueLengths}
use Rattle.film_status.specs.Status.{Returns}
use Rattle.film_listing.specs.Listing.{length_numbers, Lists}

pub lists : {told : Answer Cue} {numbers numbers' bytes bytes' out out' : List ℕ} {listed : Result CueLengths Refusal} {r : ℕ}
    → GivesCue told numbers numbers' bytes bytes' listed → Returns (told_cue listed) length_numbers out out' r → Lists told numbers numbers' bytes bytes' out out' r
lists given returned = record { returned = rw given.answer at returned; rows = given.rows; listing = given.output }
