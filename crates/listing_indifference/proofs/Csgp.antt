-- A csgp of the named type: version, flag bits 8 to 23, parameter, index values that no sample uses and later bits do not matter to its samples.
use mathlib.Core.Path.{◌≡◌, refl, ap, sym, ◌∙◌}
use mathlib.Core.Logic.{◌⊎◌, inl, inr}
use mathlib.Core.Bool.{false}
use mathlib.Core.List.{List, [], ◌∷◌, ◌++◌}
use Prim.Native.Nat.{ℕ, zero, suc, ◌+◌, ◌*◌, ◌%◌, ◌<◌, ◌≤◌}
use native.Mathlib.Decide.{dec_lt}
use native.Mathlib.Nat.{mul-suc, suc-mul, mul-one, mod-le}
use native.Mathlib.Omega.{arith}
use lib.Dec.{ltb, eqb}
use lib.ListN.{length, get_or}
use Rattle.base_fields.specs.Answer.{given}
use Rattle.base_fields.specs.Number.{be_at, bit_at}
use Rattle.base_fields.proofs.Agree.{Same, bits-same}
use Rattle.base_fields.proofs.Answers.{given_inj, given-first, given-past}
use Rattle.base_fields.proofs.Both.{Both, both_refuse, both-and_then}
use Rattle.table_rows.specs.Pattern.{Pattern, index_in, samples_from, samples_of}
use Rattle.table_rows.proofs.Samples.{samples_from-length}
use Rattle.table_patterns.specs.Place.{bit_count, index_value}
use Rattle.table_csgp_head.specs.Csgp.{index_width_of, count_width_of, length_width_of, has_marks, too_large, Pair, read_pairs, read_indices, read_patterns}
use Rattle.listing_indifference.specs.Places.{UnusedIn, index_end}
use Rattle.listing_indifference.proofs.Side.{large_in, large-same}

-- index lists of one length that agree below c
pub record AgreeBelow (c : ℕ) (is js : List ℕ) : Type 0 where
  pub long : length is ≡ length js
  pub at : (k : ℕ) → k < c → get_or is k 0 ≡ get_or js k 0

agree-more : {c x y : ℕ} {is js : List ℕ} → x ≡ y → AgreeBelow c is js → AgreeBelow (suc c) (x ∷ is) (y ∷ js)
agree-more {c} {x} {y} {is} {js} e g = record { long = ap suc g.long; at = at }
  where
    at : (k : ℕ) → k < suc c → get_or (x ∷ is) k 0 ≡ get_or (y ∷ js) k 0
    at zero h = e
    at (suc k) h = g.at k (omega arith)

samples-agree : {c : ℕ} {is js : List ℕ} → AgreeBelow c is js → (m k n : ℕ) → k + n ≤ c
    → samples_from (record { indices = is; count = m }) k n ≡ samples_from (record { indices = js; count = m }) k n
unfolding samples_from index_in
samples-agree g m k zero h = refl
samples-agree {is = is} {js} g m k (suc n) h =
    rw (g.long, g.at (k % length js) (omega (arith, mod-le k (length js))), samples-agree g m (suc k) n (omega arith))

empty-parts : (l m : List ℕ) → l ++ m ≡ [] → (l ≡ []) × (m ≡ [])
empty-parts [] m e = (refl, e)
empty-parts (x ∷ l) m e = let z : ◌≡◌ {A = ℕ} 0 1 = cc in absurd (omega arith)

-- patterns that give each sample the same index
abbrev pub SameSamples : List Pattern → List Pattern → Type 0
SameSamples ps qs = samples_of ps ≡ samples_of qs

-- patterns of whatever indices
abbrev pub Shaped : List Pattern → List Pattern → Type 0
Shaped ps qs = Unit

-- patterns end behind their first index, and unused ones stand behind it
pub end-behind : (w : ℕ) (rs : List Pair) (q : ℕ) → q ≤ index_end w rs q
end-behind w [] q = omega arith
end-behind w (r ∷ rs) q = omega (arith, end-behind w rs (q + w * r.pattern_length))

pub unused-behind : (w : ℕ) (rs : List Pair) (q i : ℕ) → UnusedIn w rs q i → q ≤ i
unused-behind w [] q i x = elim x [ ]
unused-behind w (r ∷ rs) q i (inl h) = omega (arith, h.0)
unused-behind w (r ∷ rs) q i (inr h) = omega (arith, unused-behind w rs (q + w * r.pattern_length) i h)

-- patterns that make no sample use none of their indices
pub unused-all : (a : List ℕ) (rs : List Pair) (q : ℕ) {ps : List Pattern} → read_patterns rs a q ≡ given ps → samples_of ps ≡ [] → (k : ℕ) → q ≤ k
    → k < index_end (index_width_of a) rs q → UnusedIn (index_width_of a) rs q k
unfolding read_patterns samples_of
unused-all a [] q e n k l h = absurd (omega arith)
unused-all a (r ∷ rs) q e n k l h =
    let w = index_width_of a in
    let next = q + w * r.pattern_length in
    let here = given-past (eqb r.pattern_length 0) 26 _ e in
    let one = given-first (read_indices r.pattern_length a q) _ here.1 in
    let more = given-first (read_patterns rs a next) _ one.2 in
    let first : Pattern = record { indices = one.0; count = r.sample_count_of } in
    let m : samples_of (first ∷ more.0) ≡ [] = rw (← given_inj more.2) at n in
    let c = empty-parts (samples_from first 0 r.sample_count_of) (samples_of more.0) m in
    let z : r.sample_count_of ≡ 0 = sym (samples_from-length first 0 r.sample_count_of) ∙ rw c.0 refl in
    elim (dec_lt k next) [
      | yes u ↦ inl (rw z (omega arith), u)
      | no u ↦ inr (unused-all a rs next more.1 c.1 k (omega arith) h)
    ]

-- the highest bits of the indices from q on, before e, agree where number 67 asks them
abbrev pub Tops : List ℕ → List ℕ → ℕ → ℕ → Type 0
Tops a b q e = has_marks a ≡ false → index_width_of a ≡ 32 → (j : ℕ) → q + 32 * j < e → bit_at a (q + 32 * j) ≡ bit_at b (q + 32 * j)

-- payloads of one length and with the same widths
module _ (a b : List ℕ) (long : length a ≡ length b) (flag : be_at 1 a 3 ≡ be_at 1 b 3) where
  pub pairs-same : (n p : ℕ) → Same a b p (p + n * (length_width_of a + count_width_of a)) → read_pairs n a p ≡ read_pairs n b p
  unfolding read_pairs
  pairs-same zero p h = refl
  pairs-same (suc n) p h =
      let m = suc-mul n (length_width_of a + count_width_of a) in
      rw (
        ← long,
        ← flag,
        bits-same (length_width_of a) a b p (λ k u v. h k u (omega arith)),
        bits-same (count_width_of a) a b (p + length_width_of a) (λ k u v. h k (omega arith) (omega arith)),
        pairs-same n (p + length_width_of a + count_width_of a) (λ k u v. h k (omega arith) (omega arith)),
      )

  first-large : (q e : ℕ) → Tops a b q e → q + index_width_of a ≤ e → too_large a q ≡ large_in a b q
  first-large q e t h = large-same a b q (λ m w. let z : q + 32 * 0 ≡ q = omega arith in rw z at (t m w 0 (omega arith)))

  later-tops : (n q e : ℕ) → Tops a b q e → Tops a b (q + index_width_of a * n) e
  later-tops n q e t m w j h =
      let z : q + index_width_of a * n + 32 * j ≡ q + 32 * (n + j) = rw w (omega arith) in
      rw z (t m w (n + j) (omega arith))

  next-tops : (q e : ℕ) → Tops a b q e → Tops a b (q + index_width_of a) e
  next-tops q e t = let z : q + index_width_of a * 1 ≡ q + index_width_of a = omega (arith, mul-one (index_width_of a)) in rw z at (later-tops 1 q e t)

  -- only the indices below c have to agree
  indices-same : (n c q e : ℕ) → Tops a b q e → q + index_width_of a * n ≤ e
      → ((k : ℕ) → q ≤ k → k < q + index_width_of a * c → k < q + index_width_of a * n → bit_at a k ≡ bit_at b k)
      → Both (AgreeBelow c) (read_indices n a q) (read_indices n b q)
  unfolding read_indices
  indices-same zero c q e t s h = record { long = refl; at = λ k u. refl }
  indices-same (suc n) zero q e t s h =
      let m = mul-suc (index_width_of a) n in
      rw (← long, ← flag, ← (first-large q e t (omega arith)))
      (both_refuse (AgreeBelow 0) (ltb (bit_count a) (q + index_width_of a)) 27 _ _ (λ _.
      both_refuse (AgreeBelow 0) (too_large a q) 67 _ _ (λ _.
      both-and_then (AgreeBelow 0) (AgreeBelow 0) (read_indices n a (q + index_width_of a)) (read_indices n b (q + index_width_of a)) _ _
      (indices-same n zero (q + index_width_of a) e (next-tops q e t) (omega arith) (λ k u v w. absurd (omega arith)))
      (λ is js _ _ g. record { long = ap suc g.long; at = λ k u. absurd (omega arith) }))))
  indices-same (suc n) (suc c) q e t s h =
      let w = index_width_of a in
      let mc = mul-suc w c in
      let mn = mul-suc w n in
      let first = ap (λ (x : ℕ). index_value (has_marks a) w x) (bits-same w a b q (λ k u v. h k u (omega arith) (omega arith))) in
      rw (← long, ← flag, ← (first-large q e t (omega arith)))
      (both_refuse (AgreeBelow (suc c)) (ltb (bit_count a) (q + w)) 27 _ _ (λ _.
      both_refuse (AgreeBelow (suc c)) (too_large a q) 67 _ _ (λ _.
      both-and_then (AgreeBelow c) (AgreeBelow (suc c)) (read_indices n a (q + w)) (read_indices n b (q + w)) _ _
      (indices-same n c (q + w) e (next-tops q e t) (omega arith) (λ k u v x. h k (omega arith) (omega arith) (omega arith)))
      (λ is js _ _ g. agree-more first g))))

  pub patterns-same : (rs : List Pair) (q e : ℕ) → Tops a b q e → index_end (index_width_of a) rs q ≤ e
      → ((k : ℕ) → q ≤ k → k < index_end (index_width_of a) rs q → (bit_at a k ≡ bit_at b k) ⊎ UnusedIn (index_width_of a) rs q k)
      → Both SameSamples (read_patterns rs a q) (read_patterns rs b q)
  unfolding read_patterns samples_of
  patterns-same [] q e t s h = refl
  patterns-same (r ∷ rs) q e t s h =
      let w = index_width_of a in
      let next = q + w * r.pattern_length in
      let here : (k : ℕ) → q ≤ k → k < q + w * r.sample_count_of → k < next → bit_at a k ≡ bit_at b k =
      (λ k u v x. elim (h k u (omega (arith, end-behind w rs next))) [
        | inl e ↦ e
        | inr (inl y) ↦ absurd (omega (arith, y.0))
        | inr (inr y) ↦ absurd (omega (arith, unused-behind w rs next k y))
      ]) in
      let later : (k : ℕ) → next ≤ k → k < index_end w rs next → (bit_at a k ≡ bit_at b k) ⊎ UnusedIn w rs next k =
      (λ k u v. elim (h k (omega arith) v) [
        | inl e ↦ inl e
        | inr (inl y) ↦ absurd (omega (arith, y.1))
        | inr (inr y) ↦ inr y
      ]) in
      rw (← flag)
      (both_refuse SameSamples (eqb r.pattern_length 0) 26 _ _ (λ _.
      both-and_then (AgreeBelow r.sample_count_of) SameSamples (read_indices r.pattern_length a q) (read_indices r.pattern_length b q) _ _
      (indices-same r.pattern_length r.sample_count_of q e t (omega (arith, end-behind w rs next)) here) (λ is js _ _ g.
      both-and_then SameSamples SameSamples (read_patterns rs a next) (read_patterns rs b next) _ _
      (patterns-same rs next e (later-tops r.pattern_length q e t) s later)
      (λ ps qs _ _ f. rw (samples-agree g r.sample_count_of 0 r.sample_count_of (omega arith), f)))))

  -- that patterns are read, or which refusal is given, depends on no index but by the side of 67
  pub patterns-shaped : (rs : List Pair) (q e : ℕ) → Tops a b q e → index_end (index_width_of a) rs q ≤ e → Both Shaped (read_patterns rs a q) (read_patterns rs b q)
  unfolding read_patterns
  patterns-shaped [] q e t s = tt
  patterns-shaped (r ∷ rs) q e t s =
      let next = q + index_width_of a * r.pattern_length in
      rw (← flag)
      (both_refuse Shaped (eqb r.pattern_length 0) 26 _ _ (λ _.
      both-and_then (AgreeBelow 0) Shaped (read_indices r.pattern_length a q) (read_indices r.pattern_length b q) _ _
      (indices-same r.pattern_length 0 q e t (omega (arith, end-behind (index_width_of a) rs next)) (λ k u v x. absurd (omega arith))) (λ is js _ _ g.
      both-and_then Shaped Shaped (read_patterns rs a next) (read_patterns rs b next) _ _
      (patterns-shaped rs next e (later-tops r.pattern_length q e t) s) (λ ps qs _ _ f. tt))))
