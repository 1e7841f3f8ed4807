-- An sbgp of the named type: flags, parameter and later bytes do not matter.
use mathlib.Core.Path.{◌≡◌, refl}
use mathlib.Core.Bool.{Bool, true, false}
use mathlib.Core.List.{List}
use Prim.Native.Nat.{ℕ, zero, suc, ◌+◌, ◌*◌, ◌<◌, ◌≤◌}
use native.Mathlib.Omega.{arith}
use lib.Dec.{ltb}
use lib.ListN.{length}
use Rattle.base_fields.specs.Answer.{choose, input_limit}
use Rattle.base_fields.specs.Number.{be_at}
use Rattle.base_fields.proofs.Agree.{Same, be_same}
use Rattle.base_fields.proofs.Bits.{Bytes}
use Rattle.base_fields.proofs.Both.{Both, both_refuse}
use Rattle.table_rows.specs.Row.{Table}
use Rattle.table_front.specs.Front.{has_parameter, count_place, count_of}
use Rattle.table_front.specs.declared.TableKind.TheVariants.{Sbgp}
use Rattle.table_sbgp.specs.Sbgp.{sbgp, read_rows}
use Rattle.listing_indifference.specs.Bits.{Differ}
use Rattle.listing_indifference.specs.Places.{SbgpListed, flags, parameter, after_rows, other_type}
use Rattle.listing_indifference.proofs.Differ.{differ_same, differ_be}

-- the type and the rows of two tables: all but the parameter
pub record SameTable (x y : Table) : Type 0 where
  pub type : x.grouping_type_of ≡ y.grouping_type_of
  pub rows : x.rows ≡ y.rows

pub count-behind : (b : Bool) → 8 ≤ choose b 12 8
count-behind true = omega arith
count-behind false = omega arith

rows_same : (n : ℕ) (a b : List ℕ) (p : ℕ) → Bytes a → Bytes b → Same a b (8 * p) (8 * (p + 8 * n)) → read_rows n a p ≡ read_rows n b p
unfolding read_rows
rows_same zero a b p ba bb h = refl
rows_same (suc n) a b p ba bb h =
    rw (
      be_same 4 a b p ba bb (λ k l m. h k l (omega arith)),
      be_same 4 a b (p + 4) ba bb (λ k l m. h k (omega arith) (omega arith)),
      rows_same n a b (p + 8) ba bb (λ k l m. h k (omega arith) (omega arith)),
    )

-- the grouping type is never listed
pub type-kept : (t : ℕ) (a : List ℕ) (k : ℕ) → 32 ≤ k → k < 64 → SbgpListed t a k → ⊥
type-kept t a k l h (flags u v) = omega arith
type-kept t a k l h (parameter e u v) = omega arith
type-kept t a k l h (after_rows e u) = omega (arith, count-behind (has_parameter Sbgp a))
type-kept t a k l h (other_type n u) = omega arith

module _ {t : ℕ} {a b : List ℕ} (named : be_at 4 a 4 ≡ t) (d : Differ (SbgpListed t a) a b) where
  -- listed bits stand in the flags, in the parameter, or behind the rows
  version-kept : (k : ℕ) → k < 8 → SbgpListed t a k → ⊥
  version-kept k h (flags u v) = omega arith
  version-kept k h (parameter e u v) = omega arith
  version-kept k h (after_rows e u) = omega (arith, count-behind (has_parameter Sbgp a))
  version-kept k h (other_type n u) = n named

  rows-kept : (k : ℕ) → 8 * count_place Sbgp a ≤ k → k < 8 * (count_place Sbgp a + 4 + 8 * count_of Sbgp a) → SbgpListed t a k → ⊥
  rows-kept k l h (flags u v) = omega (arith, count-behind (has_parameter Sbgp a))
  rows-kept k l h (parameter e u v) = let c : count_place Sbgp a ≡ 12 = rw e refl in omega arith
  rows-kept k l h (after_rows e u) = omega arith
  rows-kept k l h (other_type n u) = n named

  pub sbgp-same : Both SameTable (sbgp a) (sbgp b)
  unfolding sbgp
  sbgp-same =
      let version : be_at 1 a 0 ≡ be_at 1 b 0 = differ_be d 1 0 (λ k l m. version-kept k m) in
      let type : be_at 4 a 4 ≡ be_at 4 b 4 = differ_be d 4 4 (λ k l m. type-kept t a k l m) in
      let count : be_at 4 a (count_place Sbgp a) ≡ be_at 4 b (count_place Sbgp a) = differ_be d 4 (count_place Sbgp a) (λ k l m. rows-kept k l (omega arith)) in
      let rows = rows_same (count_of Sbgp a) a b (count_place Sbgp a + 4) d.first d.second (differ_same d _ _ (λ k l m. rows-kept k (omega arith) m)) in
      rw (← d.long, ← version, ← count)
      (both_refuse SameTable (ltb input_limit (length a)) 55 _ _ (λ _.
      both_refuse SameTable (ltb (length a) 8) 20 _ _ (λ _.
      both_refuse SameTable (ltb (length a) (count_place Sbgp a)) 21 _ _ (λ _.
      both_refuse SameTable (ltb (length a) (count_place Sbgp a + 4)) 22 _ _ (λ _.
      both_refuse SameTable (ltb (length a) (count_place Sbgp a + 4 + 8 * count_of Sbgp a)) 23 _ _ (λ _.
      record { type = type; rows = rows }))))))
