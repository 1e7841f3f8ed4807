-- Equal words: where the bytes come again after eight, so do the indices that lie in them.
use mathlib.Core.Path.{◌≡◌, refl, ap, sym, ◌∙◌}
use Prim.Native.Nat.{ℕ, zero, suc, ◌+◌, ◌-◌, ◌*◌, ◌/◌, ◌%◌, ◌^◌, ◌≤◌, ◌<◌}
use native.Mathlib.Nat.{add-zero, mul-zero, mul-suc, mul-add, mul_comm, mul-le-mul_left, mul-le-mul_right, div-add-mod', div-mul-le_self, le-div_iff_mul-le}
use native.Mathlib.Decide.{dec_lt}
use native.Mathlib.Omega.{arith}
use mathlib.Core.List.{List}
use Rattle.base_fields.specs.Number.{be_at, bit_at, bits_at}
use Rattle.base_fields.proofs.Bits.{Bytes, bit-of}
use Rattle.table_patterns.specs.Place.{field_number}
use Rattle.table_patterns.specs.Run.{AlikeIndices, alike, SameWords}

module _ (s : List ℕ) (at stop : ℕ) where
  pub words-none : at ≤ stop → SameWords s at stop at
  words-none h =
      record {
        words = 0;
        ends = omega arith;
        within = h;
        same = λ k l. let z : k ≡ 0 = omega arith in rw (z, mul-zero, add-zero) refl;
      }

  pub words_more : {end : ℕ} → 8 ≤ at → SameWords s at stop end → end + 8 ≤ stop → be_at 8 s end ≡ be_at 8 s (at - 8) → SameWords s at stop (end + 8)
  words_more {end} l w h e =
      record {
        words = w.words + 1;
        ends = omega (arith, w.ends);
        within = h;
        same = λ k g.
            elim (dec_lt w.words k) [
              | yes b ↦ let p : at - 8 + 8 * k ≡ end = omega (arith, w.ends) in rw p e
              | no b ↦ w.same k (omega arith)
            ];
      }

  module _ (bytes : Bytes s) {end : ℕ} (late : 8 ≤ at) (w : SameWords s at stop end) where
    -- a bit comes again after 64
    bit-again : (b : ℕ) → 8 * (at - 8) ≤ b → b + 64 < 8 * end → bit_at s (b + 64) ≡ bit_at s b
    bit-again b l h =
        let o = b - 8 * (at - 8) in
        let k = o / 64 in
        let i = o % 64 in
        let u : k + 1 ≤ w.words = omega (arith, w.ends) in
        let p : 8 * (at - 8 + 8 * k) + i ≡ b = omega arith in
        let q : 8 * (at - 8 + 8 * (k + 1)) + i ≡ b + 64 = omega arith in
        let e = w.same k (omega arith) ∙ sym (w.same (k + 1) u) in
        let here = bit-of 8 s (at - 8 + 8 * k) i bytes (omega arith) in
        let there = bit-of 8 s (at - 8 + 8 * (k + 1)) i bytes (omega arith) in
        ap (bit_at s) (sym q) ∙ sym there ∙ ap (λ (v : ℕ). v / 2 ^ (8 * 8 - 1 - i) % 2) (sym e) ∙ here ∙ ap (bit_at s) p

    -- and so does a field
    field-again : (n p : ℕ) → 8 * (at - 8) ≤ p → p + n + 64 ≤ 8 * end → bits_at n s (p + 64) ≡ bits_at n s p
    unfolding bits_at
    field-again zero p l h = refl
    field-again (suc n) p l h =
        let e : p + 64 + n ≡ p + n + 64 = omega arith in
        rw (field-again n p l (omega arith), e, bit-again (p + n) (omega arith) (omega arith)) refl

-- the words behind the first 18 of alike indices: all indices that end within them are alike too
module _ (s : List ℕ) (width place from end stop behind v : ℕ) (bytes : Bytes s) (wide : 4 ≤ width) (whole : 64 % width ≡ 0)
    (first : AlikeIndices (field_number width s place) from end (alike 18 v))
    (w : SameWords s ((place + width * from + width * 18) / 8) stop behind) where
  abbrev in-word : ℕ
  in-word = 64 / width

  word-whole : width * in-word ≡ 64
  word-whole = omega (arith, div-add-mod' 64 width, mul_comm width in-word)

  some-in-word : 0 < in-word
  some-in-word =
      elim (dec_lt 0 in-word) [
        | yes l ↦ l
        | no l ↦ let z : in-word ≡ 0 = omega arith in absurd (omega (arith, rw (z, mul-zero) at word-whole))
      ]

  index-again : (j : ℕ) → 18 ≤ j → place + width * (from + j) + width ≤ 8 * behind → field_number width s place (from + j) ≡ field_number width s place (from + (j - in-word))
  index-again j l h =
      let few : in-word ≤ 16 = omega (arith, word-whole, mul-le-mul_right in-word wide) in
      let parts : from + j ≡ from + (j - in-word) + in-word = omega arith in
      let e : place + width * (from + j) ≡ place + width * (from + (j - in-word)) + 64 = omega (arith, word-whole, mul-add width (from + (j - in-word)) in-word, ap (λ (n : ℕ). width * n) parts) in
      let far : width * from + width * 18 ≤ width * (from + j) = omega (arith, mul-add width from 18, mul-le-mul_left width (let b : from + 18 ≤ from + j = omega arith in b)) in
      let high : 72 ≤ width * 18 = omega (arith, wide) in
      rw e (field-again s ((place + width * from + width * 18) / 8) stop bytes (omega arith) w width (place + width * (from + (j - in-word))) (omega arith) (omega arith))

  abbrev Alike : ℕ → Type 0
  Alike j = place + width * (from + j) + width ≤ 8 * behind → field_number width s place (from + j) ≡ v

  all_alike : (fuel j : ℕ) → j < fuel → Alike j
  all_alike zero j b h = absurd (omega arith)
  all_alike (suc fuel) j b h =
      elim (dec_lt j 18) [
        | yes l ↦ first.same j l
        | no l ↦
            let some = some-in-word in
            let back : width * (from + (j - in-word)) ≤ width * (from + j) = mul-le-mul_left width (omega arith) in
            index-again j (omega arith) h ∙ all_alike fuel (j - in-word) (omega arith) (omega arith)
      ]

  abbrev pub far_count : ℕ
  far_count = (8 * behind - (place + width * from)) / width

  far-samples : far_count * width ≤ 8 * behind - (place + width * from)
  far-samples = div-mul-le_self (8 * behind - (place + width * from)) width

  -- the indices that end within the words
  pub far-run : stop ≡ (place + width * end) / 8 → (place + width * from ≤ 8 * behind) × AlikeIndices (field_number width s place) from end (alike far_count v)
  far-run e =
      let positive : 0 < width = omega arith in
      let high : 72 ≤ width * 18 = omega (arith, wide) in
      let last : 8 * behind ≤ place + width * end = omega (arith, w.within) in
      let near : place + width * from + width ≤ 8 * behind = omega (arith, w.ends, wide) in
      let one : 1 * width ≤ 8 * behind - (place + width * from) = omega arith in (
        omega arith,
        record {
          some = (le-div_iff_mul-le positive).1 one;
          within =
              elim (dec_lt end (from + far_count)) [
                | yes b ↦ absurd (omega (arith, mul-le-mul_left width b, mul-suc width end, mul-add width from far_count, mul_comm width far_count, far-samples))
                | no b ↦ omega arith
              ];
          same = λ j l.
              all_alike (suc j) j (omega arith)
              (omega (arith, mul-le-mul_left width l, mul-suc width j, mul-add width from j, mul_comm width far_count, far-samples));
        },
      )

-- the places of the first 18 lie before the end
pub near-inside : (width from end : ℕ) → from + 18 ≤ end → width * from + width * 18 ≤ width * end
near-inside width from end h = omega (arith, mul-add width from 18, mul-le-mul_left width h)
