-- One step along the patterns of a payload that has all of them.
use mathlib.Core.Path.{◌≡◌, refl}
use Prim.Native.Nat.{ℕ, zero, suc, ◌-◌, ◌≤◌, ◌<◌}
use native.Mathlib.Omega.{arith}
use mathlib.Core.List.{List, [], ◌∷◌}
use Rattle.table_patterns.specs.Place.{bit_count, pattern_in, Stands}
use Rattle.table_csgp_head.specs.Head.{Fixed, place_at, pair_behind, indices_behind, patterns_from, WholeFrom, ahead, Whole, patterns_behind, Near, pair_read}
use Rattle.table_csgp_head.specs.declared.CsgpHead.{CsgpHead}
use Rattle.table_csgp_head.specs.declared.PatternsAt.{PatternsAt}

-- the first pattern ahead, and those behind it
pub record Step (s : List ℕ) (h : CsgpHead) (here : PatternsAt) : Type 0 where
  pub pair : pair_behind s here.pair ≤ bit_count s
  pub stands : Stands s (place_at s here.pair here.indices)
  pub first : ahead s here ≡ pattern_in s (place_at s here.pair here.indices) ∷ ahead s (patterns_behind h here (pair_read s here.pair).pattern_length)
  pub whole : Whole s (patterns_behind h here (pair_read s here.pair).pattern_length)
  pub near : Near (patterns_behind h here (pair_read s here.pair).pattern_length)

-- what is whole, by how many are left
whole-first : (n : ℕ) (s : List ℕ) (p q : ℕ) → 0 < n → WholeFrom n s p q →
    (pair_behind s p ≤ bit_count s) × Stands s (place_at s p q) × WholeFrom (n - 1) s (pair_behind s p) (indices_behind s p q)
unfolding WholeFrom
whole-first zero s p q h w = absurd (omega arith)
whole-first (suc n) s p q h w = let e : suc n - 1 ≡ n = omega arith in rw e w

patterns-first : (n : ℕ) (s : List ℕ) (p q : ℕ) → 0 < n →
    patterns_from n s p q ≡ pattern_in s (place_at s p q) ∷ patterns_from (n - 1) s (pair_behind s p) (indices_behind s p q)
unfolding patterns_from
patterns-first zero s p q h = absurd (omega arith)
patterns-first (suc n) s p q h = let e : suc n - 1 ≡ n = omega arith in rw e refl

module _ (s : List ℕ) (here : PatternsAt) where
  pub ahead-end : here.left ≡ 0 → ahead s here ≡ []
  unfolding patterns_from
  ahead-end e = rw e refl

  pub ahead_step : (h : CsgpHead) → Fixed s h → 0 < here.left → Whole s here → Step s h here
  ahead_step h f some w =
      let p = whole-first here.left s here.pair here.indices some w in
      rw (f.length_bits, f.count_bits, f.index_bits)
      (record {
        pair = p.0;
        stands = p.1;
        first = patterns-first here.left s here.pair here.indices some;
        whole = p.2;
        near = (omega (arith, p.0, f.short), omega (arith, p.1.inside, f.short));
      })
