-- The side of number 67: whether an index is too large depends on its highest bit only, and on that only where it has 32 bits and no mark.
use mathlib.Core.Path.{◌≡◌, refl}
use mathlib.Core.Bool.{Bool, true, false}
use mathlib.Core.List.{List}
use Prim.Native.Nat.{ℕ, ◌+◌, ◌^◌, ◌<◌, ◌≤◌}
use native.Mathlib.Decide.{dec_lt}
use native.Mathlib.Omega.{arith}
use borrow.Author.Tests.{le-leb, lt-leb}
use lib.Dec.{leb}
use lib.Pow.{pow_mono}
use Rattle.base_fields.specs.Answer.{choose}
use Rattle.base_fields.specs.Number.{bit_at, bits_at}
use Rattle.base_fields.proofs.Bits.{bits_below, bits-highest}
use Rattle.base_ids.specs.Limits.{local_mark}
use Rattle.table_csgp_head.specs.Csgp.{has_marks, index_width_of, too_large}
use Rattle.table_csgp_head.proofs.Widths.{widths}

large-top : (s : List ℕ) (p : ℕ) → leb local_mark (bits_at 32 s p) ≡ leb 1 (bit_at s p)
large-top s p =
    let h = bits-highest 31 s p in
    let l = bits_below 31 s (p + 1) in
    elim (dec_lt (bit_at s p) 1) [
      | yes z ↦ let b : bits_at 32 s p < local_mark = omega arith in rw (lt-leb _ _ b, lt-leb _ _ z)
      | no z ↦
          let o : 1 ≤ bit_at s p = omega arith in
          let b : local_mark ≤ bits_at 32 s p = omega arith in
          rw (le-leb _ _ b, le-leb _ _ o)
    ]

module _ (a b : List ℕ) where
  -- the test over the bits of b, with the flags of a
  abbrev pub large_in : ℕ → Bool
  large_in q = choose (has_marks a) false (leb local_mark (bits_at (index_width_of a) b q))

  pub large-same : (q : ℕ) → (has_marks a ≡ false → index_width_of a ≡ 32 → bit_at a q ≡ bit_at b q) → too_large a q ≡ large_in q
  large-same q h = by (has_marks a) refl
    where
      small : (s : List ℕ) → index_width_of a < 32 → bits_at (index_width_of a) s q < local_mark
      small s l =
          let top : 2 ^ index_width_of a ≤ local_mark = pow_mono {i = index_width_of a} {j = 31} (omega arith) in
          omega (arith, bits_below (index_width_of a) s q)

      by : (m : Bool) → has_marks a ≡ m → too_large a q ≡ large_in q
      by true e = rw e refl
      by false e =
          elim (dec_lt (index_width_of a) 32) [
            | yes l ↦ rw (lt-leb _ _ (small a l), lt-leb _ _ (small b l)) refl
            | no l ↦
                let w : index_width_of a ≡ 32 = omega (arith, (widths a).index) in
                rw (w, large-top a q, large-top b q, h e w) refl
          ]
