-- Kinds of meanings, as rules 2 to 5 ask for them.
use mathlib.Core.Path.{◌≡◌, refl, ap, sym, ◌∙◌}
use mathlib.Core.Bool.{Bool, true, false, false≢true}
use mathlib.Core.Logic.{◌⊎◌, inl, inr, ⊎_elim}
use Prim.Native.Nat.{ℕ, zero, suc, ◌≤◌}
use native.Mathlib.Omega.{arith}
use mathlib.Core.List.{List, []}
use lib.Dec.{ltb}
use lib.ListN.{length, get_or}
use Rattle.base_fields.specs.Answer.{Answer, given, refused, choose, and_then, within, input_limit}
use Rattle.base_fields.proofs.Answers.{given-first, within-short}
use Rattle.base_ids.specs.Limits.{local_mark}
use Rattle.group_entries.specs.Decoded.{Decoded, Rap, roll_of, rap_of, tele_of, sap_of, rash_of, alst_of, raw_of, decode_rap}
use Rattle.group_entries.specs.Layout.{decode}
use Rattle.listing_theorem.specs.Meaning.{Meaning, outside, missing, value}
use Rattle.listing_theorem.specs.Listing.{kind}
use Rattle.listing_theorem.specs.Samples.{meaning_of}
use Rattle.listing_spec.specs.Table.{entries_of}
use Rattle.listing_spec.proofs.Local.{local-missing}
use Rattle.use_profile.specs.Profile.{t}
use Rattle.use_profile.specs.Survey.{kind_of_value, kind_told, kind_by, is_gap, is_known, is_found}
use Rattle.use_profile.specs.declared.SampleKind.TheVariants as kinds

value-gap : (v : Decoded) → is_gap (kind_of_value v) ≡ false
value-gap (roll_of d) = refl
value-gap (rap_of r) = by r.known
  where
    by : (b : Bool) → is_gap (choose b kinds.Known kinds.Unknown) ≡ false
    by true = refl
    by false = refl
value-gap (tele_of b) = refl
value-gap (sap_of v) = refl
value-gap (rash_of v points) = refl
value-gap (alst_of v offsets pairs) = refl
value-gap (raw_of bytes) = refl

value_found : (v : Decoded) → is_found (kind_of_value v) ≡ true
value_found (roll_of d) = refl
value_found (rap_of r) = by r.known
  where
    by : (b : Bool) → is_found (choose b kinds.Known kinds.Unknown) ≡ true
    by true = refl
    by false = refl
value_found (tele_of b) = refl
value_found (sap_of v) = refl
value_found (rash_of v points) = refl
value_found (alst_of v offsets pairs) = refl
value_found (raw_of bytes) = refl

pub rap-known : (r : Rap) → is_known (kind_of_value (rap_of r)) ≡ r.known
rap-known r = by r.known
  where
    by : (b : Bool) → is_known (choose b kinds.Known kinds.Unknown) ≡ b
    by true = refl
    by false = refl

-- kinds 0 and 1 together
pub gap-kind : (m : Meaning) → is_gap (kind_told (given m)) ≡ true → (kind m ≡ 0) ⊎ (kind m ≡ 1)
gap-kind outside e = inl refl
gap-kind missing e = inr refl
gap-kind (value v) e = absurd (false≢true (sym (value-gap v) ∙ e))

pub kind-gap : (m : Meaning) → (kind m ≡ 0) ⊎ (kind m ≡ 1) → is_gap (kind_told (given m)) ≡ true
kind-gap outside e = refl
kind-gap missing e = refl
kind-gap (value v) e = absurd (⊎_elim {C = ⊥} (λ z. omega (arith, z)) (λ z. omega (arith, z)) e)

-- kind 2
pub inside-kind : (m : Meaning) → is_gap (kind_told (given m)) ≡ false → kind m ≡ 2
inside-kind outside e = absurd (false≢true (sym e))
inside-kind missing e = absurd (false≢true (sym e))
inside-kind (value v) e = refl

pub kind-inside : (m : Meaning) → kind m ≡ 2 → is_gap (kind_told (given m)) ≡ false
kind-inside outside e = absurd (omega (arith, e))
kind-inside missing e = absurd (omega (arith, e))
kind-inside (value v) e = value-gap v

-- kind 1
pub found-kind : (m : Meaning) → is_found (kind_told (given m)) ≡ true → kind m ≡ 1 → ⊥
found-kind outside e z = omega (arith, z)
found-kind missing e z = false≢true e
found-kind (value v) e z = omega (arith, z)

pub kind-found : (m : Meaning) → (kind m ≡ 1 → ⊥) → is_found (kind_told (given m)) ≡ true
kind-found outside z = refl
kind-found missing z = absurd (z refl)
kind-found (value v) z = value_found v

-- a value in a table of type "rap " is a random access point
pub rap-value : (entries : List (List ℕ)) (i : ℕ) {v : Decoded} → meaning_of t entries i ≡ given (value v) → (r : Rap) × (v ≡ rap_of r)
unfolding meaning_of decode
rap-value entries zero e = let z : ◌≡◌ {A = ℕ} 0 1 = cc in absurd (omega arith)
rap-value entries (suc i) {v} e = by (ltb i (length entries)) e
  where
    by : (b : Bool) → choose b (and_then (decode t (get_or entries i [])) (λ w. given (value w))) (given missing) ≡ given (value v) → (r : Rap) × (v ≡ rap_of r)
    by true e =
        let d = given-first (decode t (get_or entries i [])) _ e in
        let r = given-first (decode_rap (get_or entries i [])) (λ w. given (rap_of w)) d.1 in
        let same : d.0 ≡ v = value_same d.2 in
        let made : rap_of r.0 ≡ d.0 = decoded-same r.2 in
        (r.0, sym same ∙ sym made)
      where
        value_same : {a b : Decoded} → ◌≡◌ {A = Answer Meaning} (given (value a)) (given (value b)) → a ≡ b
        value_same e = cc

        decoded-same : {a b : Decoded} → ◌≡◌ {A = Answer Decoded} (given a) (given b) → a ≡ b
        decoded-same e = cc
    by false e = let z : ◌≡◌ {A = ℕ} 0 1 = cc in absurd (omega arith)

-- a marked index (document 02, A7) has kind 1, as in the listing
pub marked-kind : (s : List ℕ) {entries : List (List ℕ)} → entries_of s ≡ given entries → (i : ℕ) → local_mark ≤ i → kind_by entries i ≡ kinds.Missing
marked-kind s read i h = ap kind_told (local-missing t s read i h)

-- the kind of an entry, by its decoder
module _ (b : List ℕ) (short : length b ≤ input_limit) where
  pub entry-given : {r : Rap} → given r ≡ within b (decode_rap b)
      → kind_told (and_then (decode t b) (λ v. given (value v))) ≡ choose r.known kinds.Known kinds.Unknown
  unfolding decode
  entry-given {r} e = let d : decode_rap b ≡ given r = sym (e ∙ within-short b (decode_rap b) short) in rw d refl

  pub entry-refused : {n : ℕ} → refused n ≡ within b (decode_rap b) → kind_told (and_then (decode t b) (λ v. given (value v))) ≡ kinds.Unknown
  unfolding decode
  entry-refused {n} e = let d : decode_rap b ≡ refused n = sym (e ∙ within-short b (decode_rap b) short) in rw d refl
