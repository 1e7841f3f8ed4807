-- Numbers that are 0 exactly where bytes are the same: of eight bytes, of blocks that are joined, and of blocks from both ends.
use mathlib.Core.Path.{◌≡◌}
use mathlib.Core.List.{List}
use Prim.Native.Nat.{ℕ, ◌+◌, ◌-◌, ◌≤◌, zero-le}
use native.Mathlib.Decide.{dec_lt}
use native.Mathlib.Omega.{arith}
use lib.Dec.{eqb}
use lib.Bits.{bit_xor, bit_or, xor_self, xor_add_and, or_add_and, and_le_l, and_le_r}
use borrow.Author.Tests.{eqb-true, eqb-false}
use Rattle.base_fields.proofs.Bits.{Bytes}
use Rattle.group_alike.specs.Front.{low_first, ZeroWhereSame, GivesSame}
use Rattle.group_alike.proofs.Over.{over-join, over-of-low, low-of-over}

same-of_xor : (x y : ℕ) → bit_xor x y ≡ 0 → x ≡ y
same-of_xor x y e = omega (arith, xor_add_and x y, and_le_l x y, and_le_r x y)

zeros_of_or : (x y : ℕ) → bit_or x y ≡ 0 → (x ≡ 0) × (y ≡ 0)
zeros_of_or x y e =
    (omega (arith, or_add_and x y, and_le_r x y), omega (arith, or_add_and x y, and_le_l x y))

or_of_zeros : (x y : ℕ) → x ≡ 0 → y ≡ 0 → bit_or x y ≡ 0
or_of_zeros x y e f = omega (arith, or_add_and x y)

module _ (a b : List ℕ) where
  pub eight : (p : ℕ) → Bytes a → Bytes b → ZeroWhereSame a b p 8 (bit_xor (low_first 8 a p 0) (low_first 8 b p 0))
  eight p ba bb =
      record {
        same = λ e i h l. over-of-low 8 a b p 0 ba bb (same-of_xor _ _ e) i (omega arith) (omega arith);
        none = λ o. rw (low-of-over 8 a b p 0 (λ i h l. o i (omega arith) (omega arith))) (xor_self (low_first 8 b p 0));
      }

  pub differing_join : (p v w : ℕ) {x y : ℕ} → ZeroWhereSame a b p v x → ZeroWhereSame a b (p + v) w y → ZeroWhereSame a b p (v + w) (bit_or x y)
  differing_join p v w {x} {y} first second =
      record {
        same = λ e. let z = zeros_of_or x y e in over-join a b p v w (first.same z.0) (second.same z.1);
        none = λ o. or_of_zeros x y (first.none (λ i h l. o i h (omega arith))) (second.none (λ i h l. o i (omega arith) (omega arith)));
      }

  -- four blocks of one width
  pub differing_four : (p w : ℕ) {x y z u : ℕ} → ZeroWhereSame a b p w x → ZeroWhereSame a b (p + w) w y → ZeroWhereSame a b (p + (w + w)) w z
      → ZeroWhereSame a b (p + (w + w + w)) w u → ZeroWhereSame a b p (w + w + w + w) (bit_or (bit_or (bit_or x y) z) u)
  differing_four p w first second third fourth =
      differing_join p (w + w + w) w (differing_join p (w + w) w (differing_join p w w first second) third) fourth

  -- blocks from both ends, which may overlap
  pub two_ends : (n w : ℕ) {x y : ℕ} → w ≤ n → n ≤ w + w → ZeroWhereSame a b 0 w x → ZeroWhereSame a b (n - w) w y → ZeroWhereSame a b 0 n (bit_or x y)
  two_ends n w {x} {y} s t front back =
      record {
        same = λ e i h l. let z = zeros_of_or x y e in elim (dec_lt i w) [
          | yes m ↦ front.same z.0 i h (omega arith)
          | no m ↦ back.same z.1 i (omega arith) (omega arith)
        ];
        none = λ o. or_of_zeros x y (front.none (λ i h l. o i h (omega arith))) (back.none (λ i h l. o i zero-le (omega arith)));
      }

  -- compared with 0
  pub gives_same : (n : ℕ) {r : ℕ} → ZeroWhereSame a b 0 n r → GivesSame a b n (eqb r 0)
  gives_same n z =
      record {
        same = λ e. z.same (eqb-true _ _ e);
        different = λ e o. eqb-false _ _ e (z.none o);
      }
