-- Request A11 of document 02 ("What cannot matter"): which bits of the body s of an stbl may differ, for the grouping type t, by the structure of s itself.
use Rattle.std.specs.Prelude.{ℕ, zero, suc, ◌-◌, ◌*◌, ◌<◌, ◌≤◌, ◌≡◌, List, length, take, drop}
use Rattle.std.proofs.Math.Option.{some}
use Rattle.base_fields.specs.Answer.{given}
use Rattle.table_rows.specs.Pattern.{samples_of}
use Rattle.atom_tree.specs.Atom.{Child, child_at}
use Rattle.listing_spec.specs.Walk.{sbgp_type, csgp_type, sgpd_type}
use Rattle.listing_spec.specs.Meanings.{patterns_in}
use Rattle.listing_indifference.specs.Bits.{Differ}
use Rattle.listing_indifference.specs.Places.{SbgpListed, CsgpListed, SgpdListed}

-- the walk reaches place p behind n children
abbrev pub Reached : List ℕ → ℕ → ℕ → Type 0
Reached s zero p = p ≡ 0
Reached s (suc n) p = (q : ℕ) × (c : Child) × Reached s n q × (child_at s q (some (length s)) ≡ given c) × (p ≡ c.next)

-- the bytes of a child's body, to its end
abbrev pub child_bytes : List ℕ → Child → List ℕ
child_bytes s c = take (c.next - c.head.body) (drop c.head.body s)

-- the indices of the samples of the taken table; none where no table is taken, or where it is not read
abbrev pub used_indices : List ℕ → ℕ → List ℕ
used_indices s t = samples_of (patterns_in s t)

-- bit j of a child's body
pub data ChildListed (s : List ℕ) (t : ℕ) (c : Child) (j : ℕ) : Type 0 where
  -- "body bytes of other kinds of atom"
  other_kind : (c.head.type ≡ sbgp_type → ⊥) → (c.head.type ≡ csgp_type → ⊥) → (c.head.type ≡ sgpd_type → ⊥) → ChildListed s t c j
  in_sbgp : c.head.type ≡ sbgp_type → SbgpListed t (child_bytes s c) j → ChildListed s t c j
  in_csgp : c.head.type ≡ csgp_type → CsgpListed t (used_indices s t) (child_bytes s c) j → ChildListed s t c j
  in_sgpd : c.head.type ≡ sgpd_type → SgpdListed t (used_indices s t) (child_bytes s c) j → ChildListed s t c j

-- bit i stands in the body of a child, and is listed there. (Headers are never listed)
pub record BodyListed (s : List ℕ) (t : ℕ) (i : ℕ) : Type 0 where
  pub number : ℕ
  pub place : ℕ
  pub child : Child
  pub reached : Reached s number place
  pub there : child_at s place (some (length s)) ≡ given child
  pub from : 8 * child.head.body ≤ i
  pub before : i < 8 * child.next
  pub listed : ChildListed s t child (i - 8 * child.head.body)

-- "Two stbl bodies may differ only in ..": in what is listed, all at once and in every atom. "Lengths and sizes agree"
pub record Indifferent (t : ℕ) (s s' : List ℕ) : Type 0 where
  pub differ : Differ (BodyListed s t) s s'
