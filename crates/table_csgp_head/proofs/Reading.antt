-- How the patterns of a payload are read, by cases on what is there.
use mathlib.Core.Path.{◌≡◌, refl, ◌∙◌}
use Prim.Native.Nat.{ℕ, zero, suc, ◌+◌, ◌-◌, ◌*◌, ◌%◌, ◌≤◌, ◌<◌}
use native.Mathlib.Nat.{suc-mul, mul-suc, mul-zero, mod-eq_of_lt, mod-eq-sub-mod}
use native.Mathlib.Decide.{dec_lt}
use native.Mathlib.Omega.{arith}
use borrow.Author.Tests.{lt-ltb, le-ltb, eq-eqb, ne_eqb}
use mathlib.Core.Bool.{Bool, true, false}
use mathlib.Core.List.{List, [], ◌∷◌}
use lib.Dec.{ltb}
use Rattle.base_fields.specs.Answer.{Answer, given, refused, choose, refuse_if, and_then}
use Rattle.table_patterns.specs.Place.{bit_count, indices_at, pattern_in}
use Rattle.table_csgp_head.specs.Csgp.{index_width_of, count_width_of, length_width_of, has_marks, Pair, too_large, read_pairs, read_indices, read_patterns, read_from}
use Rattle.table_csgp_head.specs.Head.{place_at, pair_behind, indices_behind, pair_read}
use Rattle.table_csgp_head.specs.Indices.{GivesLarge, IndicesRead}

refuse_or : {A : Type 0} (test : Bool) (n : ℕ) (rest : Answer A) → (test ≡ false → rest ≡ refused n) → refuse_if test n rest ≡ refused n
refuse_or true n rest h = refl
refuse_or false n rest h = h refl

module _ (s : List ℕ) where
  -- a pair table that fits is read
  pub pairs-fit : (n p : ℕ) → p + n * (length_width_of s + count_width_of s) ≤ bit_count s → (rs : List Pair) × (read_pairs n s p ≡ given rs)
  unfolding read_pairs
  pairs-fit zero p h = ([], refl)
  pairs-fit (suc n) p h =
      let m = suc-mul n (length_width_of s + count_width_of s) in
      let a : p + length_width_of s ≤ bit_count s = omega arith in
      let b : pair_behind s p ≤ bit_count s = omega arith in
      let ih = pairs-fit n (pair_behind s p) (omega arith) in
      (pair_read s p ∷ ih.0, simp (le-ltb _ _ a, le-ltb _ _ b, ih.1))

  -- one that does not ends in a pair that is cut in its length or in its count
  pub pairs-cut : (n p : ℕ) → 0 < length_width_of s → p ≤ bit_count s → bit_count s < p + n * (length_width_of s + count_width_of s) →
      read_pairs n s p ≡ refused (choose (ltb ((bit_count s - p) % (length_width_of s + count_width_of s)) (length_width_of s)) 24 25)
  unfolding read_pairs
  pairs-cut zero p w l h = absurd (omega arith)
  pairs-cut (suc n) p w l h =
      let m = suc-mul n (length_width_of s + count_width_of s) in
      elim (dec_lt (bit_count s) (p + length_width_of s)) [
        | yes a ↦
            let r : (bit_count s - p) % (length_width_of s + count_width_of s) ≡ bit_count s - p = mod-eq_of_lt (omega arith) in
            let t : bit_count s - p < length_width_of s = omega arith in
            simp (lt-ltb _ _ a, r, lt-ltb _ _ t)
        | no a ↦
            elim (dec_lt (bit_count s) (pair_behind s p)) [
              | yes b ↦
                  let r : (bit_count s - p) % (length_width_of s + count_width_of s) ≡ bit_count s - p = mod-eq_of_lt (omega arith) in
                  let a' : p + length_width_of s ≤ bit_count s = omega arith in
                  let t : length_width_of s ≤ bit_count s - p = omega arith in
                  simp (le-ltb _ _ a', lt-ltb _ _ b, r, le-ltb _ _ t)
              | no b ↦
                  let a' : p + length_width_of s ≤ bit_count s = omega arith in
                  let b' : pair_behind s p ≤ bit_count s = omega arith in
                  let d : bit_count s - p - (length_width_of s + count_width_of s) ≡ bit_count s - (pair_behind s p) = omega arith in
                  let r : (bit_count s - p) % (length_width_of s + count_width_of s) ≡ (bit_count s - (pair_behind s p)) % (length_width_of s + count_width_of s) =
                  mod-eq-sub-mod (omega arith) ∙ rw d refl in
                  simp (le-ltb _ _ a', le-ltb _ _ b', r, pairs-cut n (pair_behind s p) w b' (omega arith))
            ]
      ]

  -- the first of some indices, and the next
  large-first : {b : Bool} (q : ℕ) → too_large s (q + index_width_of s * 0) ≡ b → too_large s q ≡ b
  large-first q h = let z : q + index_width_of s * 0 ≡ q = omega (arith, mul-zero (index_width_of s)) in rw z at h

  large-next : {b : Bool} (q j : ℕ) → too_large s (q + index_width_of s * suc j) ≡ b → too_large s (q + index_width_of s + index_width_of s * j) ≡ b
  large-next q j h = let z : q + index_width_of s * suc j ≡ q + index_width_of s + index_width_of s * j = omega (arith, mul-suc (index_width_of s) j) in rw z at h

  -- indices that fit, none of them too large, are read
  pub indices-fit : (n q : ℕ) → q + index_width_of s * n ≤ bit_count s → GivesLarge s q n false →
      read_indices n s q ≡ given (indices_at (has_marks s) (index_width_of s) n s q)
  unfolding read_indices indices_at
  indices-fit zero q h g = refl
  indices-fit (suc n) q h g =
      let m = mul-suc (index_width_of s) n in
      let a : q + index_width_of s ≤ bit_count s = omega arith in
      let rest = indices-fit n (q + index_width_of s) (omega arith) (λ j l. large-next q j (g (suc j) (omega arith))) in
      rw (le-ltb _ _ a, large-first q (g 0 (omega arith)), rest) refl

  -- m indices fit, none of them too large, and the next is cut
  pub indices-cut : (n m q : ℕ) → m < n → q + index_width_of s * m ≤ bit_count s → bit_count s < q + index_width_of s * suc m → GivesLarge s q m false →
      read_indices n s q ≡ refused 27
  unfolding read_indices
  indices-cut zero m q l u v g = absurd (omega arith)
  indices-cut (suc n) zero q l u v g =
      let a : bit_count s < q + index_width_of s = omega (arith, mul-suc (index_width_of s) 0, mul-zero (index_width_of s)) in
      rw (lt-ltb _ _ a) refl
  indices-cut (suc n) (suc m) q l u v g =
      let c = mul-suc (index_width_of s) m in
      let d = mul-suc (index_width_of s) (suc m) in
      let a : q + index_width_of s ≤ bit_count s = omega arith in
      let small : GivesLarge s (q + index_width_of s) m false = (λ j l. large-next q j (g (suc j) (omega arith))) in
      let rest = indices-cut n m (q + index_width_of s) (omega arith) (omega arith) (omega arith) small in
      rw (le-ltb _ _ a, large-first q (g 0 (omega arith)), rest) refl

  -- m indices fit, and one of them is too large
  pub indices-large : (n m q : ℕ) → m ≤ n → q + index_width_of s * m ≤ bit_count s → GivesLarge s q m true → read_indices n s q ≡ refused 67
  unfolding read_indices
  indices-large n zero q l u g = absurd (omega (arith, g.1))
  indices-large zero (suc m) q l u g = absurd (omega arith)
  indices-large (suc n) (suc m) q l u g =
      let c = mul-suc (index_width_of s) m in
      let a : q + index_width_of s ≤ bit_count s = omega arith in
      rw (le-ltb _ _ a)
      (refuse_or (too_large s q) 67 _ (λ e. large_or e g
      (λ j k h. rw (indices-large n m (q + index_width_of s) (omega arith) (omega arith) (j, omega arith, large-next q j h)) refl)))
    where
      -- the first index is not too large, so one behind it is
      large_or : {A : Type 0} → too_large s q ≡ false → GivesLarge s q (suc m) true →
          ((j : ℕ) → suc j < suc m → too_large s (q + index_width_of s * suc j) ≡ true → A) → A
      large_or e (zero, k, h) f = let y = large-first q h in let z : ◌≡◌ {A = ℕ} 0 1 = cc in absurd (omega arith)
      large_or e (suc j, k, h) f = f j k h

-- the first of the patterns ahead, where all of their pairs fit
module _ (s : List ℕ) (n p q : ℕ) (fits : p + suc n * (length_width_of s + count_width_of s) ≤ bit_count s) where
  others : (rs : List Pair) × (read_pairs n s (pair_behind s p) ≡ given rs)
  others = pairs-fit s n (pair_behind s p) (omega (arith, suc-mul n (length_width_of s + count_width_of s)))

  first_of : read_from (suc n) s p q ≡ read_patterns (pair_read s p ∷ others.0) s q
  unfolding read_pairs
  first_of =
      let m = suc-mul n (length_width_of s + count_width_of s) in
      let a : p + length_width_of s ≤ bit_count s = omega arith in
      let b : pair_behind s p ≤ bit_count s = omega arith in
      simp (le-ltb _ _ a, le-ltb _ _ b, others.1)

  pub ahead-empty : (pair_read s p).pattern_length ≡ 0 → read_from (suc n) s p q ≡ refused 26
  unfolding read_patterns
  ahead-empty e = first_of ∙ simp (eq-eqb _ _ e)

  pub ahead-cut : {m : ℕ} → ((pair_read s p).pattern_length ≡ 0 → ⊥) → read_indices (pair_read s p).pattern_length s q ≡ refused m →
      read_from (suc n) s p q ≡ refused m
  unfolding read_patterns
  ahead-cut e h = first_of ∙ simp (ne_eqb _ _ e, h)

  pub ahead_more : ((pair_read s p).pattern_length ≡ 0 → ⊥) → IndicesRead s q (pair_read s p).pattern_length →
      read_from (suc n) s p q ≡ and_then (read_from n s (pair_behind s p) (indices_behind s p q)) (λ rest. given (pattern_in s (place_at s p q) ∷ rest))
  unfolding read_patterns
  ahead_more e h = first_of ∙ simp (ne_eqb _ _ e, h.read, others.1)
