-- Indices that are too large (document 02, A7): of those that can be, the ones that have their highest bit.
use mathlib.Core.Path.{◌≡◌, refl}
use Prim.Native.Nat.{ℕ, ◌+◌, ◌-◌, ◌*◌, ◌/◌, ◌%◌, ◌^◌, ◌≤◌, ◌<◌}
use native.Mathlib.Omega.{arith}
use borrow.Author.Tests.{le-leb, lt-leb, eqb-true, eqb-false}
use mathlib.Core.Bool.{Bool, true, false}
use mathlib.Core.List.{List}
use lib.Dec.{eqb, leb}
use lib.Pow.{pow_mono}
use Rattle.base_fields.specs.Answer.{choose}
use Rattle.base_fields.specs.Number.{be_at, bit_at, bits_at}
use Rattle.base_fields.proofs.Bytes.{be_at-one}
use Rattle.base_fields.proofs.Bits.{bits_below, bits-highest}
use Rattle.base_ids.specs.Limits.{local_mark}
use Rattle.table_csgp_head.specs.Csgp.{has_marks, index_width_of}
use Rattle.table_csgp_head.specs.Head.{Fixed}
use Rattle.table_csgp_head.specs.Indices.{can_be_large_by, GivesHighest, GivesLarge}
use Rattle.table_csgp_head.specs.declared.CsgpHead.{CsgpHead}
use Rattle.table_csgp_head.proofs.Widths.{widths}

-- what can be too large has 32 bits and no mark
can_be : (marks : Bool) (w : ℕ) → choose marks false (eqb w 32) ≡ true → (marks ≡ false) × (w ≡ 32)
can_be true w e = let z : ◌≡◌ {A = ℕ} 0 1 = cc in absurd (omega arith)
can_be false w e = (refl, eqb-true w 32 e)

-- what cannot be is not
cannot_be : (marks : Bool) (w x : ℕ) → w ≤ 32 → x < 2 ^ w → choose marks false (eqb w 32) ≡ false → choose marks false (leb local_mark x) ≡ false
cannot_be true w x narrow fits e = refl
cannot_be false w x narrow fits e =
    let top : 2 ^ w ≤ local_mark = pow_mono {i = w} {j = 31} (omega (arith, eqb-false w 32 e)) in
    lt-leb _ _ (let h : x < local_mark = omega arith in h)

module _ (s : List ℕ) where
  pub can_be_large : can_be_large_by s ≡ true → (has_marks s ≡ false) × (index_width_of s ≡ 32)
  can_be_large e = can_be (has_marks s) (index_width_of s) e

  pub large-told : (h : CsgpHead) → Fixed s h → choose h.marks false (eqb h.index_width 32) ≡ can_be_large_by s
  large-told h f = rw (f.marked, f.index_bits) refl

  -- a field of 32 bits by its highest bit
  highest-set : (p : ℕ) → bit_at s p ≡ 1 → local_mark ≤ bits_at 32 s p
  highest-set p e = rw (bits-highest 31 s p, e) (omega arith)

  highest_clear : (p : ℕ) → bit_at s p ≡ 0 → bits_at 32 s p < local_mark
  highest_clear p e = rw (bits-highest 31 s p, e) (omega (arith, bits_below 31 s (p + 1)))

  -- that bit stands in the byte that the field begins in
  pub highest-at : (place i at : ℕ) → at ≡ place / 8 + 4 * i → be_at 1 s at / 2 ^ (7 - place % 8) % 2 ≡ bit_at s (place + 32 * i)
  unfolding bit_at
  highest-at place i at e =
      let d : (place + 32 * i) / 8 ≡ at = omega arith in
      let m : (place + 32 * i) % 8 ≡ place % 8 = omega arith in
      rw (d, m, be_at-one s at) refl

  pub none-large : (q n : ℕ) → can_be_large_by s ≡ false → GivesLarge s q n false
  none-large q n e j l =
      let w = index_width_of s in
      cannot_be (has_marks s) w (bits_at w s (q + w * j)) (widths s).index.1 (bits_below w s (q + w * j)) e

  pub highest-large : (q n : ℕ) (r : Bool) → can_be_large_by s ≡ true → GivesHighest s q n r → GivesLarge s q n r
  highest-large q n true e (j, l, h) =
      let b = can_be_large e in
      (j, l, rw (b.0, b.1, le-leb _ _ (highest-set (q + 32 * j) h)) refl)
  highest-large q n false e g =
      let b = can_be_large e in
      λ j l. rw (b.0, b.1, lt-leb _ _ (highest_clear (q + 32 * j) (g j l))) refl
