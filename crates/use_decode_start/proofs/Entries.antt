-- The distance of an entry that decodes, by its layout; and of an index, by its meaning.
use mathlib.Core.Path.{◌≡◌, refl, sym}
use mathlib.Core.List.{List}
use mathlib.Core.Option.{Option}
use Prim.Native.Nat.{ℕ, ◌≤◌}
use lib.IntN.{ℤ}
use lib.ListN.{length}
use Rattle.base_fields.specs.Answer.{Answer, given, refused, and_then}
use Rattle.base_fields.proofs.Answers.{given_inj, given-first, refused-first}
use Rattle.group_entries.specs.Layout.{decode_as}
use Rattle.group_entries.specs.declared.EntryLayout.{EntryLayout}
use Rattle.group_entries.specs.declared.EntryLayout.TheVariants.{Roll}
use Rattle.group_entries.proofs.Values.{value_of, valued}
use Rattle.group_alike.specs.Front.{front_size}
use Rattle.listing_theorem.specs.Meaning.{Meaning}
use Rattle.use_decode_start.specs.Start.{distance_of_value, distance_of_meaning, distance_told}

-- what the front of an entry tells
module _ (l : EntryLayout) (b : List ℕ) where
  abbrev fronted : Answer ℕ
  fronted = and_then (decode_as l b) (λ v. given (front_size l b))

  abbrev distanced : Answer (Option ℤ)
  distanced = and_then (decode_as l b) (λ v. given (distance_of_value v))

  pub entry-refused : {n : ℕ} → refused n ≡ fronted → refused n ≡ distanced
  entry-refused e = let r = refused-first (decode_as l b) (λ v. front_size l b) (sym e) in rw r refl

  pub entry-given : {n : ℕ} {o : Option ℤ} → given n ≡ fronted → o ≡ distance_of_value (value_of l b) → given o ≡ distanced
  entry-given e f =
      let first = given-first (decode_as l b) (λ v. given (front_size l b)) (sym e) in
      let v = (valued l b first.1).0 in
      rw (first.1, v, f) refl

  pub roll-sized : {n : ℕ} → given n ≡ fronted → l ≡ Roll → 2 ≤ length b
  roll-sized e r =
      let first = given-first (decode_as l b) (λ v. given (front_size l b)) (sym e) in
      rw r at (valued l b first.1).1

-- a meaning that was given, and its distance
pub distance-given : (x : Answer Meaning) {o : Option ℤ} → given o ≡ and_then x (λ m. given (distance_of_meaning m)) → ((m : Meaning) × (x ≡ given m)) × (distance_told x ≡ o)
distance-given x e =
    let first = given-first x (λ m. given (distance_of_meaning m)) (sym e) in
    ((first.0, first.1), rw first.1 (given_inj first.2))

pub distance-refused : (x : Answer Meaning) {n : ℕ} → refused n ≡ and_then x (λ m. given (distance_of_meaning m)) → x ≡ refused n
distance-refused x e = refused-first x distance_of_meaning (sym e)
