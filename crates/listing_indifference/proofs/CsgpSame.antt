-- A csgp of the named type that differs in listed bits only: the same samples, or the same refusal.
use mathlib.Core.Path.{◌≡◌, refl, sym, ◌∙◌}
use mathlib.Core.Logic.{◌⊎◌, inl, inr}
use mathlib.Core.List.{List}
use Prim.Native.Nat.{ℕ, ◌+◌, ◌*◌, ◌<◌, ◌≤◌}
use native.Mathlib.Omega.{arith}
use lib.Dec.{ltb}
use lib.ListN.{length}
use Rattle.base_fields.specs.Answer.{Answer, given, none, refused, input_limit}
use Rattle.base_fields.specs.Number.{be_at, bit_at}
use Rattle.base_fields.proofs.Answers.{given_inj}
use Rattle.base_fields.proofs.Both.{Both, both_refuse, both-and_then, both-same}
use Rattle.table_rows.specs.Pattern.{Pattern, samples_of}
use Rattle.table_front.specs.Front.{has_parameter, count_place}
use Rattle.table_front.specs.declared.TableKind.TheVariants.{Csgp}
use Rattle.table_csgp_head.specs.Csgp.{index_width_of, pattern_count_of, stream_place, index_place, Pair, read_pairs, read_patterns, csgp}
use Rattle.listing_indifference.specs.Bits.{Differ}
use Rattle.listing_indifference.specs.Places as places
use Rattle.listing_indifference.specs.Places.{SideBit, CsgpListed, UnusedIn, index_end}
use Rattle.listing_indifference.proofs.Differ.{differ_same, differ_be}
use Rattle.listing_indifference.proofs.Sbgp.{count-behind}
use Rattle.listing_indifference.proofs.Csgp as csgps
use Rattle.listing_indifference.proofs.Csgp.{SameSamples, Shaped, Tops, pairs-same, patterns-same, patterns-shaped}

-- flag bits 0 to 7 and the grouping type are never listed
pub head-kept : (t : ℕ) (used a : List ℕ) (k : ℕ) → 24 ≤ k → k < 64 → CsgpListed t used a k → ⊥
head-kept t used a k l h (places.version_and_flags u) = omega arith
head-kept t used a k l h (places.parameter e u v) = omega arith
head-kept t used a k l h (places.unused_index {rs} e u z) =
    omega (arith, csgps.unused-behind (index_width_of a) rs (index_place a) k u, count-behind (has_parameter Csgp a))
head-kept t used a k l h (places.no_sample n e u v z) = omega (arith, count-behind (has_parameter Csgp a))
head-kept t used a k l h (places.after_indices {rs} e f u) = omega (arith, csgps.end-behind (index_width_of a) rs (index_place a), count-behind (has_parameter Csgp a))
head-kept t used a k l h (places.other_type n u) = omega arith

module _ {t : ℕ} {used a b : List ℕ} (named : be_at 4 a 4 ≡ t) (d : Differ (CsgpListed t used a) a b) where
  -- the pair table, and where the indices end
  abbrev Paired : List Pair → Type 0
  Paired rs = read_pairs (pattern_count_of a) a (stream_place a) ≡ given rs

  abbrev stop : List Pair → ℕ
  stop rs = index_end (index_width_of a) rs (index_place a)

  -- in front of the first index only bytes 0 to 2 and the parameter are listed
  pairs-kept : (k : ℕ) → 8 * count_place Csgp a ≤ k → k < index_place a → CsgpListed t used a k → ⊥
  pairs-kept k l h (places.version_and_flags u) = omega (arith, count-behind (has_parameter Csgp a))
  pairs-kept k l h (places.parameter e u v) = let c : count_place Csgp a ≡ 12 = rw e refl in omega arith
  pairs-kept k l h (places.unused_index {rs} e u z) = omega (arith, csgps.unused-behind (index_width_of a) rs (index_place a) k u)
  pairs-kept k l h (places.no_sample n e u v z) = omega arith
  pairs-kept k l h (places.after_indices {rs} e f u) = omega (arith, csgps.end-behind (index_width_of a) rs (index_place a))
  pairs-kept k l h (places.other_type n u) = n named

  -- no highest bit that 67 asks is listed among the indices
  tops-kept : {rs : List Pair} → Paired rs → (k : ℕ) → index_place a ≤ k → k < stop rs → SideBit a k → CsgpListed t used a k → ⊥
  tops-kept r k l h z (places.version_and_flags u) = omega (arith, count-behind (has_parameter Csgp a))
  tops-kept r k l h z (places.parameter e u v) = let c : count_place Csgp a ≡ 12 = rw e refl in omega arith
  tops-kept r k l h z (places.unused_index e u f) = f z
  tops-kept r k l h z (places.no_sample n e u v f) = f z
  tops-kept r k l h z (places.after_indices e f u) = let v = rw (given_inj (sym f ∙ r)) at u in omega arith
  tops-kept r k l h z (places.other_type n u) = n named

  flag_same : be_at 1 a 3 ≡ be_at 1 b 3
  flag_same = differ_be d 1 3 (λ k l m. head-kept t used a k l (omega arith))

  tops : {rs : List Pair} → Paired rs → Tops a b (index_place a) (stop rs)
  tops r m w j h =
      elim (d.bits (index_place a + 32 * j)) [
        | inl x ↦ x
        | inr x ↦ absurd (tops-kept r (index_place a + 32 * j) (omega arith) h (record { plain = m; wide = omega arith; top = omega arith }) x)
      ]

  -- the indices of a payload that is read: `used` are those of its samples
  module _ {rs : List Pair} {ps : List Pattern} (r : Paired rs) (p : read_patterns rs a (index_place a) ≡ given ps) (are : used ≡ samples_of ps) where
    indices-kept : (k : ℕ) → index_place a ≤ k → k < stop rs → CsgpListed t used a k → UnusedIn (index_width_of a) rs (index_place a) k
    indices-kept k l h (places.version_and_flags u) = absurd (omega (arith, count-behind (has_parameter Csgp a)))
    indices-kept k l h (places.parameter e u v) = let c : count_place Csgp a ≡ 12 = rw e refl in absurd (omega arith)
    indices-kept k l h (places.unused_index e u z) = rw (given_inj (sym e ∙ r)) at u
    indices-kept k l h (places.no_sample n e u v z) = csgps.unused-all a rs (index_place a) p (sym are ∙ n) k l h
    indices-kept k l h (places.after_indices e f u) = let v = rw (given_inj (sym f ∙ r)) at u in absurd (omega arith)
    indices-kept k l h (places.other_type n u) = absurd (n named)

    bits-kept : (k : ℕ) → index_place a ≤ k → k < stop rs → (bit_at a k ≡ bit_at b k) ⊎ UnusedIn (index_width_of a) rs (index_place a) k
    bits-kept k l m = elim (d.bits k) [ inl x ↦ inl x | inr x ↦ inr (indices-kept k l m x) ]

    patterns-kept : Both SameSamples (read_patterns rs a (index_place a)) (read_patterns rs b (index_place a))
    patterns-kept = patterns-same a b d.long flag_same rs (index_place a) _ (tops r) (omega arith) bits-kept

  -- what the samples are does not matter to a payload that is refused
  by_read : {rs : List Pair} → Paired rs → ((ps : List Pattern) → read_patterns rs a (index_place a) ≡ given ps → used ≡ samples_of ps)
      → Both SameSamples (read_patterns rs a (index_place a)) (read_patterns rs b (index_place a))
  by_read {rs} r are =
      by (read_patterns rs a (index_place a)) (read_patterns rs b (index_place a)) refl refl
      (patterns-shaped a b d.long flag_same rs (index_place a) _ (tops r) (omega arith))
    where
      by : (x y : Answer (List Pattern)) → read_patterns rs a (index_place a) ≡ x → read_patterns rs b (index_place a) ≡ y → Both Shaped x y → Both SameSamples x y
      by (given ps) (given qs) e f s = let z = patterns-kept r e (are ps e) in rw (e, f) at z
      by none none e f s = tt
      by (refused m) (refused n) e f s = s
      by (given ps) none e f s = elim s [ ]
      by (given ps) (refused n) e f s = elim s [ ]
      by none (given qs) e f s = elim s [ ]
      by none (refused n) e f s = elim s [ ]
      by (refused m) (given qs) e f s = elim s [ ]
      by (refused m) none e f s = elim s [ ]

  pub csgp-same : ((ps : List Pattern) → csgp a ≡ given ps → used ≡ samples_of ps) → Both SameSamples (csgp a) (csgp b)
  unfolding csgp
  csgp-same are =
      let flag = flag_same in
      let count : be_at 4 a (count_place Csgp a) ≡ be_at 4 b (count_place Csgp a) = differ_be d 4 (count_place Csgp a) (λ k l m. pairs-kept k l (omega arith)) in
      let pairs = pairs-same a b d.long flag (pattern_count_of a) (stream_place a) (differ_same d _ _ (λ k l m. pairs-kept k (omega arith) m)) in
      rw (← d.long, ← flag, ← count, ← pairs)
      (both_refuse SameSamples (ltb input_limit (length a)) 55 _ _ (λ e1.
      both_refuse SameSamples (ltb (length a) 8) 20 _ _ (λ e2.
      both_refuse SameSamples (ltb (length a) (count_place Csgp a)) 21 _ _ (λ e3.
      both_refuse SameSamples (ltb (length a) (count_place Csgp a + 4)) 22 _ _ (λ e4.
      both-and_then (λ x y. x ≡ y) SameSamples (read_pairs (pattern_count_of a) a (stream_place a)) (read_pairs (pattern_count_of a) a (stream_place a)) _ _
      (both-same (λ x y. x ≡ y) (λ x. refl) (read_pairs (pattern_count_of a) a (stream_place a)))
      (λ rs qs r _ e. rw (← e) (by_read r (λ ps p. are ps (simp (e1, e2, e3, e4, r, p))))))))))
