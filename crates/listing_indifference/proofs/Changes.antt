-- How related lists are made: a listed byte, or listed bits of a byte, are replaced; again and again, as the list of places stays that of the first.
use mathlib.Core.Path.{◌≡◌, refl, sym, ◌∙◌}
use mathlib.Core.Logic.{◌⊎◌, inl, inr}
use mathlib.Core.Bool.{Bool, true, false}
use mathlib.Core.List.{List, [], ◌∷◌}
use Prim.Native.Nat.{ℕ, zero, suc, ◌+◌, ◌-◌, ◌*◌, ◌/◌, ◌%◌, ◌^◌, ◌<◌}
use native.Mathlib.Decide.{ℕ_discrete}
use native.Mathlib.Omega.{arith}
use borrow.Author.Tests.{ltb-true}
use lib.Dec.{ltb}
use lib.ListN.{length, get_or, set, length-set}
use lib.Seq.{get_or-set_same, get_or-set_other}
use Rattle.base_fields.specs.Answer.{choose}
use Rattle.base_fields.specs.Number.{bit_at}
use Rattle.base_fields.proofs.Bits.{Bytes}
use Rattle.listing_indifference.specs.Bits.{Differ}

module _ (P : ℕ → Type 0) (a : List ℕ) where
  module _ (b : List ℕ) (d : Differ P a b) (k v : ℕ) (inside : k < length b) (small : v < 256) where
    bytes-kept : Bytes (set b k v)
    bytes-kept j =
        elim (ℕ_discrete j k) [
          | yes e ↦ rw (e, get_or-set_same b k v 0 inside) small
          | no n ↦ rw (get_or-set_other b k j v 0 n) (d.second j)
        ]

    -- bit j of byte k, by the bits of v and of the byte in the first list
    pub differ_byte : ((j : ℕ) → j < 8 → (get_or a k 0 / 2 ^ (7 - j) % 2 ≡ v / 2 ^ (7 - j) % 2) ⊎ P (8 * k + j)) → Differ P a (set b k v)
    unfolding bit_at
    differ_byte h =
        record {
          first = d.first;
          second = bytes-kept;
          long = d.long ∙ sym (length-set b k v);
          bits = λ i. elim (ℕ_discrete (i / 8) k) [
            | yes e ↦
                let f : 8 * k + i % 8 ≡ i = omega arith in
                elim (h (i % 8) (omega arith)) [
                  | inl x ↦ inl (rw (e, get_or-set_same b k v 0 inside) x)
                  | inr x ↦ inr (rw f at x)
                ]
            | no n ↦ rw (get_or-set_other b k (i / 8) v 0 n) (d.bits i)
          ];
        }

-- a written list of bytes
abbrev pub under : List ℕ → Bool
under [] = true
under (x ∷ l) = choose (ltb x 256) (under l) false

both : (x y : Bool) → choose x y false ≡ true → (x ≡ true) × (y ≡ true)
both true y e = (refl, e)
both false y e = let z : ◌≡◌ {A = ℕ} 0 1 = cc in absurd (omega arith)

pub below : (l : List ℕ) → under l ≡ true → Bytes l
below [] e k = omega arith
below (x ∷ l) e zero = ltb-true x 256 (both (ltb x 256) (under l) e).0
below (x ∷ l) e (suc k) = below l (both (ltb x 256) (under l) e).1 k

-- the bits of a byte, one by one
pub each-bit : (P : ℕ → Type 0) → P 0 → P 1 → P 2 → P 3 → P 4 → P 5 → P 6 → P 7 → (j : ℕ) → j < 8 → P j
each-bit P a b c d e f g h zero l = a
each-bit P a b c d e f g h (suc zero) l = b
each-bit P a b c d e f g h (suc (suc zero)) l = c
each-bit P a b c d e f g h (suc (suc (suc zero))) l = d
each-bit P a b c d e f g h (suc (suc (suc (suc zero)))) l = e
each-bit P a b c d e f g h (suc (suc (suc (suc (suc zero))))) l = f
each-bit P a b c d e f g h (suc (suc (suc (suc (suc (suc zero)))))) l = g
each-bit P a b c d e f g h (suc (suc (suc (suc (suc (suc (suc zero))))))) l = h
each-bit P a b c d e f g h (suc (suc (suc (suc (suc (suc (suc (suc n)))))))) l = absurd (omega arith)
