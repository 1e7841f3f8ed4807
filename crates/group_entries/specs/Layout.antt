-- How the entries of a grouping type are laid out, and the value of an entry by layout.
use Rattle.std.specs.Prelude.{ℕ, List, eqb}
use Rattle.base_fields.specs.Answer.{Answer, given, choose, and_then}
use Rattle.base_fields.specs.Fourcc as fourcc
use Rattle.group_entries.specs.Decoded.{Decoded, roll_of, rap_of, tele_of, sap_of, rash_of, alst_of, raw_of, decode_roll, decode_rap, decode_tele, decode_sap, decode_rash, decode_alst, point_at, offset_at, pair_at, up_to}
use Rattle.group_entries.specs.declared.EntryLayout.{EntryLayout}
use Rattle.group_entries.specs.declared.EntryLayout.TheVariants.{Roll, Rap, Tele, Sap, Rash, Alst, Raw}

-- roll and prol have one layout; Raw is any type that part 7 does not name
abbrev pub layout_of : ℕ → EntryLayout
layout_of t =
    choose (eqb t fourcc.roll) Roll
    (choose (eqb t fourcc.prol) Roll
    (choose (eqb t fourcc.rap) Rap
    (choose (eqb t fourcc.tele) Tele
    (choose (eqb t fourcc.sap) Sap
    (choose (eqb t fourcc.rash) Rash
    (choose (eqb t fourcc.alst) Alst Raw))))))

abbrev pub decode_as : EntryLayout → List ℕ → Answer Decoded
decode_as Roll s = and_then (decode_roll s) (λ d. given (roll_of d))
decode_as Rap s = and_then (decode_rap s) (λ v. given (rap_of v))
decode_as Tele s = and_then (decode_tele s) (λ b. given (tele_of b))
decode_as Sap s = and_then (decode_sap s) (λ v. given (sap_of v))
decode_as Rash s = and_then (decode_rash s) (λ r. given (rash_of r (up_to (point_at s) 0 r.points)))
decode_as Alst s = and_then (decode_alst s) (λ a. given (alst_of a (up_to (offset_at s) 0 a.roll_count_of) (up_to (pair_at s) 0 a.pairs)))
decode_as Raw s = given (raw_of s)

-- the value of an entry under a grouping type
unfoldable pub decode : ℕ → List ℕ → Answer Decoded
decode t s = decode_as (layout_of t) s
