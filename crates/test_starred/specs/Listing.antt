-- The cue listing: type roll, rows (2,1),(1,0), one entry 0xFFFE, from the 62 bytes of the stbl's body.
use Rattle.std.specs.Prelude.{List, [], ◌∷◌}
use Rattle.base_fields.specs.Answer.{given}
use Rattle.base_fields.specs.Fourcc as fourcc
use Rattle.listing_spec.specs.Cue.{cue_listing}
use Rattle.listing_spec.specs.Cases.{starred_body, starred_cue}
use Rattle.test_starred.specs.Case.{Case, gives}

abbrev pub listings : List Case
listings = gives (cue_listing starred_body fourcc.roll 2 12) (given starred_cue) ∷ []
