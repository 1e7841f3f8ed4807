-- The numbers of decoded values, in the order in which the C interface hands them out.
use Rattle.std.specs.Prelude.{ℕ, Bool, List, [], ◌∷◌, ℤ}
use Rattle.group_entries.specs.Decoded.{Rap, Sap, Point, Rash, OutputPair, Alst}
use Rattle.film_status.specs.Status.{bit}

abbrev pub roll_numbers : ℤ → List ℤ
roll_numbers d = d ∷ []

abbrev pub rap_numbers : Rap → List ℕ
rap_numbers v = bit v.known ∷ v.number ∷ []

abbrev pub tele_numbers : Bool → List ℕ
tele_numbers b = bit b ∷ []

abbrev pub sap_numbers : Sap → List ℕ
sap_numbers v = bit v.dependent ∷ v.type ∷ []

abbrev pub rash_numbers : Rash → List ℕ
rash_numbers v = v.points ∷ v.maximum ∷ v.minimum ∷ v.priority ∷ []

abbrev pub point_numbers : Point → List ℕ
point_numbers p = p.bitrate ∷ p.share ∷ []

abbrev pub alst_numbers : Alst → List ℕ
alst_numbers v = v.roll_count_of ∷ v.first_output ∷ v.pairs ∷ []

abbrev pub pair_numbers : OutputPair → List ℕ
pair_numbers p = p.output ∷ p.total ∷ []

-- 1 for the same value, 0 for another
abbrev pub alike_numbers : Bool → List ℕ
alike_numbers b = bit b ∷ []
