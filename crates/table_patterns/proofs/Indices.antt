-- The indices of a pattern, by number.
use mathlib.Core.Path.{◌≡◌, refl, ap, ◌∙◌}
use Prim.Native.Nat.{ℕ, zero, suc, ◌+◌, ◌*◌, ◌%◌, ◌<◌}
use native.Mathlib.Nat.{add-zero, mul-suc, mul-zero, mod-lt}
use native.Mathlib.Omega.{arith}
use mathlib.Core.Bool.{Bool}
use mathlib.Core.List.{List}
use lib.ListN.{length, get_or}
use Rattle.table_rows.specs.Pattern.{index_in}
use Rattle.table_patterns.specs.Place.{index_number, indices_at, pattern_in}
use Rattle.table_patterns.specs.declared.PatternAt.{PatternAt}

module _ (marks : Bool) (width : ℕ) (s : List ℕ) where
  pub indices-length : (n p : ℕ) → length (indices_at marks width n s p) ≡ n
  unfolding indices_at
  indices-length zero p = refl
  indices-length (suc n) p = ap suc (indices-length n (p + width))

  pub indices-at : (n p k : ℕ) → k < n → get_or (indices_at marks width n s p) k 0 ≡ index_number marks width s p k
  unfolding indices_at
  indices-at zero p k h = absurd (omega arith)
  indices-at (suc n) p zero h = rw (mul-zero, add-zero)
  indices-at (suc n) p (suc k) h =
      let e : p + width + width * k ≡ p + width * suc k = omega (arith, mul-suc width k) in
      indices-at n (p + width) k (omega arith) ∙ rw e refl

-- sample k has the index at k modulo the length
pub index-at-turn : (s : List ℕ) (p : PatternAt) (k : ℕ) → 0 < p.length →
    index_in (pattern_in s p) k ≡ index_number p.marks p.width s p.indices (k % p.length)
unfolding index_in
index-at-turn s p k h =
    rw (indices-length p.marks p.width s p.length p.indices)
    (indices-at p.marks p.width s p.length p.indices (k % p.length) (mod-lt k h))
