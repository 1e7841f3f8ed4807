-- Likeness of meanings computes for every layout: values that are equal and ones that differ in a field, a point, an offset, a pair or a byte.
use mathlib.Core.Path.{◌≡◌, refl}
use mathlib.Core.Bool.{Bool, true, false}
use mathlib.Core.List.{List, [], ◌∷◌}
use Prim.Native.Nat.{ℕ}
use Rattle.group_entries.specs.Decoded.{rap_of, tele_of, sap_of, rash_of, alst_of, raw_of}
use Rattle.group_entries.specs.Same.{is_same}
use Rattle.listing_theorem.specs.Meaning.{Meaning, outside, missing, value}
use Rattle.listing_theorem.specs.Same.{same}

abbrev rap : Bool → ℕ → Meaning
rap known n = value (rap_of (record { known = known; number = n }))

abbrev tele : Bool → Meaning
tele b = value (tele_of b)

abbrev sap : Bool → ℕ → Meaning
sap dependent n = value (sap_of (record { dependent = dependent; type = n }))

-- two points, the second with this share
abbrev rash : ℕ → Meaning
rash share =
    value
    (rash_of (record { points = 2; maximum = 90000; minimum = 10; priority = 3 })
    (record { bitrate = 500; share = 40 } ∷ record { bitrate = 800; share = share } ∷ []))

-- two offsets, the second this one, and one pair with this total
abbrev alst : ℕ → ℕ → Meaning
alst offset total =
    value (alst_of (record { roll_count_of = 2; first_output = 1; pairs = 1 }) (7 ∷ offset ∷ []) (record { output = 4; total = total } ∷ []))

abbrev raw : List ℕ → Meaning
raw s = value (raw_of s)

abbrev Are : Bool → Meaning → Meaning → Type 0
Are b x y = is_same (same x y) ≡ b

pub kinds : Are true outside outside × Are false outside missing × Are false missing (raw [])
unfolding same
kinds = (refl, refl, refl)

pub bits : Are true (tele true) (tele true) × Are false (tele true) (tele false)
unfolding same
bits = (refl, refl)

pub raps : Are true (rap true 5) (rap true 5) × Are false (rap true 5) (rap false 5) × Are false (rap true 5) (rap true 6)
unfolding same
raps = (refl, refl, refl)

-- the same fields under another layout are another value
pub saps : Are true (sap true 5) (sap true 5) × Are false (sap true 5) (sap true 6) × Are false (sap true 5) (rap true 5)
unfolding same
saps = (refl, refl, refl)

pub rashes : Are true (rash 60) (rash 60) × Are false (rash 60) (rash 61)
unfolding same
rashes = (refl, refl)

pub alsts : Are true (alst 9 6) (alst 9 6) × Are false (alst 9 6) (alst 8 6) × Are false (alst 9 6) (alst 9 5)
unfolding same
alsts = (refl, refl, refl)

pub raws : Are true (raw (1 ∷ 2 ∷ [])) (raw (1 ∷ 2 ∷ [])) × Are false (raw (1 ∷ 2 ∷ [])) (raw (1 ∷ 3 ∷ [])) × Are false (raw (1 ∷ 2 ∷ [])) (raw (1 ∷ []))
unfolding same
raws = (refl, refl, refl)
