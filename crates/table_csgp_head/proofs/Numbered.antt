-- The numbers that a csgp's structure refuses with.
use mathlib.Core.List.{List, [], ◌∷◌}
use Prim.Native.Nat.{ℕ, zero, suc, ◌+◌, ◌*◌}
use lib.Dec.{ltb, eqb}
use borrow.Author.Rules.{rules}
use Rattle.base_fields.proofs.Numbered.{RefusesBy, by-refuse_if, by-and_then}
use Rattle.base_fields.proofs.Firm.{Other, Firm}
use Rattle.table_front.specs.declared.TableKind.TheVariants.{Csgp}
use Rattle.table_front.proofs.Numbered.{front_by}
use Rattle.table_patterns.specs.Place.{bit_count}
use Rattle.table_csgp_head.specs.Csgp.{Pair, index_width_of, count_width_of, length_width_of, pattern_count_of, stream_place, index_place, too_large, read_pairs, read_indices, read_patterns, read_all, csgp}

module _ (R : ℕ → Type 0) (N : Type 0) (s : List ℕ) where
  pairs-by : R 24 × R 25 → (n p : ℕ) → RefusesBy R N (read_pairs n s p)
  unfolding read_pairs
  pairs-by r zero p = tt
  pairs-by r (suc n) p =
      by-refuse_if R N (ltb (bit_count s) (p + length_width_of s)) 24 _ r.0
      (by-refuse_if R N (ltb (bit_count s) (p + length_width_of s + count_width_of s)) 25 _ r.1
      (by-and_then R N (read_pairs n s (p + length_width_of s + count_width_of s)) _ (pairs-by r n (p + length_width_of s + count_width_of s)) (λ rest e. tt)))

  indices-by : R 27 × R 67 → (n p : ℕ) → RefusesBy R N (read_indices n s p)
  unfolding read_indices
  indices-by r zero p = tt
  indices-by r (suc n) p =
      by-refuse_if R N (ltb (bit_count s) (p + index_width_of s)) 27 _ r.0
      (by-refuse_if R N (too_large s p) 67 _ r.1
      (by-and_then R N (read_indices n s (p + index_width_of s)) _ (indices-by r n (p + index_width_of s)) (λ rest e. tt)))

  patterns-by : R 26 × R 27 × R 67 → (rs : List Pair) (p : ℕ) → RefusesBy R N (read_patterns rs s p)
  unfolding read_patterns
  patterns-by r [] p = tt
  patterns-by r (q ∷ qs) p =
      by-refuse_if R N (eqb q.pattern_length 0) 26 _ r.0
      (by-and_then R N (read_indices q.pattern_length s p) _ (indices-by (r.1, r.2) q.pattern_length p)
      (λ is e. by-and_then R N (read_patterns qs s (p + index_width_of s * q.pattern_length)) _ (patterns-by r qs (p + index_width_of s * q.pattern_length)) (λ rest f. tt)))

  pub csgp-by : R 55 × R 20 × R 21 × R 22 × R 24 × R 25 × R 26 × R 27 × R 67 → RefusesBy R N (csgp s)
  unfolding csgp
  csgp-by r =
      front_by R N s (r.0, r.1, r.2, r.3) Csgp (read_all s)
      (by-and_then R N (read_pairs (pattern_count_of s) s (stream_place s)) _ (pairs-by (r.4, r.5) (pattern_count_of s) (stream_place s))
      (λ rs e. patterns-by (r.6, r.7, r.8) rs (index_place s)))

pub csgp-firm : (s : List ℕ) → Firm (csgp s)
csgp-firm s = csgp-by Other ⊥ s (search rules)
