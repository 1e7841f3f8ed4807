-- The cue listing: its answer, the numbers of the lent rows and the output afterwards.
use Rattle.std.specs.Prelude.{List, [], ◌∷◌}
use Rattle.base_fields.specs.Answer.{given}
use Rattle.listing_cue.specs.Told.{told_cue}
use Rattle.test_starred.specs.Case.{Case, gives}
use Rattle.test_starred_calls.specs.declared.listing.ListingAnswer.{ListingAnswer}

abbrev pub listing_answered : ListingAnswer → List Case
listing_answered r =
    gives (told_cue r.told) (given (record { listing = 12; rows = 2 })) ∷
    gives r.rows (2 ∷ 1 ∷ 1 ∷ 0 ∷ []) ∷
    gives r.listing
    (0x72 ∷ 0x6f ∷ 0x6c ∷ 0x6c ∷ 0x03 ∷ 0x02 ∷ 0x02 ∷ 0xfe ∷ 0xff ∷ 0x01 ∷ 0x01 ∷ 0x00 ∷ []) ∷
    []
