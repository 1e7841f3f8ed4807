-- Laws of lists of bytes that differ in some bits only.
use mathlib.Core.Path.{◌≡◌, refl}
use mathlib.Core.Logic.{◌⊎◌, inl, inr}
use mathlib.Core.List.{List}
use Prim.Native.Nat.{ℕ, ◌+◌, ◌*◌, ◌<◌, ◌≤◌}
use lib.ListN.{length, take, drop}
use Rattle.base_fields.specs.Number.{be_at, bit_at}
use Rattle.base_fields.proofs.Agree.{Same, be_same, bytes-of-bits, all_same, part_length, part-bits}
use Rattle.base_fields.proofs.Bits.{Bytes}
use Rattle.listing_theorem.proofs.Samples.{part_bytes}
use Rattle.listing_indifference.specs.Bits.{Differ}

-- a list of bytes differs from itself nowhere
pub differ-refl : (P : ℕ → Type 0) (a : List ℕ) → Bytes a → Differ P a a
differ-refl P a h = record { first = h; second = h; long = refl; bits = λ i. inl refl }

module _ {P : ℕ → Type 0} {a b : List ℕ} (d : Differ P a b) where
  -- where no bit of a stretch is listed
  pub differ_same : (i j : ℕ) → ((k : ℕ) → i ≤ k → k < j → P k → ⊥) → Same a b i j
  differ_same i j h k l m = elim (d.bits k) [ inl e ↦ e | inr p ↦ absurd (h k l m p) ]

  pub differ_be : (w p : ℕ) → ((k : ℕ) → 8 * p ≤ k → k < 8 * (p + w) → P k → ⊥) → be_at w a p ≡ be_at w b p
  differ_be w p h = be_same w a b p d.first d.second (differ_same (8 * p) (8 * (p + w)) h)

  -- where nothing may differ
  pub differ-none : ((i : ℕ) → P i → ⊥) → a ≡ b
  differ-none h =
      all_same a b d.long (bytes-of-bits a b d.first d.second 0 (length a) (differ_same _ _ (λ k l m. h k)))

-- parts at the same place
pub part-differ : (P : ℕ → Type 0) (a b : List ℕ) (p n : ℕ) → Bytes a → Bytes b → length a ≡ length b
    → ((j : ℕ) → j < 8 * n → (bit_at a (8 * p + j) ≡ bit_at b (8 * p + j)) ⊎ P j) → Differ P (take n (drop p a)) (take n (drop p b))
part-differ P a b p n ba bb long h =
    record {
      first = part_bytes p n a ba;
      second = part_bytes p n b bb;
      long = part_length a b long (record { place = p; size = n });
      bits = part-bits P a b p n h;
    }
