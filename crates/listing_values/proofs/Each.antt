-- Numbered elements written one after the other.
use mathlib.Core.Path.{◌≡◌, refl, ap, sym, ◌∙◌}
use mathlib.Core.List.{List, ◌++◌, append-nil, append_assoc}
use Prim.Native.Nat.{ℕ, zero, suc, ◌+◌, ◌*◌}
use native.Mathlib.Nat.{add-zero, zero-add, mul-suc}
use native.Mathlib.Numerals.{add-one}
use native.Mathlib.Omega.{arith}
use Rattle.group_entries.specs.Decoded.{up_to}
use Rattle.listing_theorem.specs.Listing.{each}
use Rattle.listing_numbers.specs.Store.{stored}
use Rattle.listing_values.specs.Parts.{PutsWithin}
use Rattle.listing_values.proofs.Parts.{within_then}

-- an element has at most `most` bytes
module _ {A : Type 0} (most : ℕ) (f : A → List ℕ) (g : ℕ → A) where
  each_next : (k n : ℕ) → each f (up_to g k (suc n)) ≡ each f (up_to g k n) ++ f (g (k + n))
  unfolding each up_to
  each_next k zero = rw add-zero (append-nil (f (g k)))
  each_next k (suc n) =
      let e : k + suc n ≡ suc k + n = omega arith in
      rw e (ap (λ (l : List ℕ). f (g k) ++ l) (each_next (suc k) n) ∙ sym (append_assoc (f (g k)) (each f (up_to g (suc k) n)) (f (g (suc k + n)))))

  pub each_none : {p : ℕ} {out : List ℕ} → PutsWithin (most * 0) (each f (up_to g 0 0)) p out out p
  unfolding each up_to stored
  each_none = record { puts = record { output = refl; next = omega arith }; near = omega arith }

  -- one element more at the end
  pub each-put : (n : ℕ) {p : ℕ} {o1 o2 o3 : List ℕ} {q r : ℕ} → PutsWithin (most * n) (each f (up_to g 0 n)) p o1 o2 q → PutsWithin most (f (g n)) q o2 o3 r
      → PutsWithin (most * (n + 1)) (each f (up_to g 0 (n + 1))) p o1 o3 r
  each-put n x y = rw (add-one n, mul-suc most n, each_next 0 n, zero-add n) (within_then x y)
