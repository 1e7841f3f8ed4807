-- Indices written with their marks (document 02, A7): each fits its field, is read back, and is never too large; and the flags by their parts.
use mathlib.Core.Path.{◌≡◌, refl, ◌∙◌}
use Prim.Native.Nat.{ℕ, zero, suc, ◌+◌, ◌-◌, ◌*◌, ◌/◌, ◌%◌, ◌^◌, ◌≤◌, ◌<◌}
use native.Mathlib.Omega.{arith}
use borrow.Author.Tests.{leb-false, lt-leb}
use mathlib.Core.Bool.{Bool, true, false}
use mathlib.Core.List.{List, [], ◌∷◌}
use lib.Dec.{leb, eqb}
use Rattle.base_fields.specs.Answer.{choose}
use Rattle.base_fields.specs.Number.{field_bound}
use Rattle.base_ids.specs.Limits.{local_mark}
use Rattle.table_rows.specs.Row.{Row}
use Rattle.table_patterns.specs.Place.{index_value}
use Rattle.table_patterns.proofs.Marks.{marked-value, half-width}
use Rattle.table_csgp_head.specs.Csgp.{width_of}
use Rattle.table_writing.specs.Remaining.{largest, largest_index, marked, largest_low, Small}
use Rattle.table_writing.specs.Bodies.{index_needs, index_code, index_bits}
use Rattle.table_writing.proofs.Codes.{Narrowest, code-narrowest, width-least}

-- flags of two codes of two bits and a mark
pub record FlagParts (marks : Bool) (c i f : ℕ) : Type 0 where
  pub small : f < 256
  pub index : f % 4 ≡ i
  pub count : f / 4 % 4 ≡ c
  pub length : f / 16 % 4 ≡ 0
  pub parameter : f / 64 % 2 ≡ 0
  pub mark : eqb (f / 128 % 2) 1 ≡ marks

pub flag-parts : (marks : Bool) (c i : ℕ) → c < 4 → i < 4 → FlagParts marks c i (choose marks 128 0 + (c * 4 + i))
flag-parts true c i h k =
    let e : (128 + (c * 4 + i)) / 128 % 2 ≡ 1 = omega arith in
    record { small = omega arith; index = omega arith; count = omega arith; length = omega arith; parameter = omega arith; mark = rw e refl }
flag-parts false c i h k =
    let e : (0 + (c * 4 + i)) / 128 % 2 ≡ 0 = omega arith in
    record { small = omega arith; index = omega arith; count = omega arith; length = omega arith; parameter = omega arith; mark = rw e refl }

-- one index in its field
pub record KeptIndex (marks : Bool) (w i : ℕ) : Type 0 where
  pub fits : index_bits marks w i < 2 ^ w
  pub back : index_value marks w (index_bits marks w i) ≡ i
  pub small : choose marks false (leb local_mark (index_bits marks w i)) ≡ false

-- a mark is 0 or 1
pub at_most : (mark half : ℕ) → mark < 2 → mark * half ≤ half
at_most zero half h = omega arith
at_most (suc zero) half h = omega arith
at_most (suc (suc mark)) half h = absurd (omega arith)

kept-marked : (w i : ℕ) → 1 ≤ w → i < field_bound → 2 * (i % local_mark) < 2 ^ w → KeptIndex true w i
kept-marked w i some top low =
    let half = 2 ^ (w - 1) in
    let whole : 2 ^ w ≡ half * 2 = half-width w some in
    let behind : i % local_mark < half = omega arith in
    let front : i / local_mark * half ≤ half = at_most (i / local_mark) half (omega arith) in
    record { fits = omega arith; back = marked-value w (i / local_mark) (i % local_mark) behind ∙ omega arith; small = refl }

kept-plain : (w i : ℕ) → i < local_mark → i < 2 ^ w → KeptIndex false w i
kept-plain w i h l = record { fits = l; back = refl; small = lt-leb _ _ h }

abbrev pub Kept : Bool → ℕ → List Row → Type 0
Kept marks w [] = Unit
Kept marks w (r ∷ rs) = KeptIndex marks w r.index × Kept marks w rs

rows-marked : (w : ℕ) (rs : List Row) → 1 ≤ w → largest_index rs < field_bound → 2 * largest_low rs < 2 ^ w → Kept true w rs
unfolding largest
rows-marked w [] some top low = tt
rows-marked w (r ∷ rs) some top low =
    (kept-marked w r.index some (omega arith) (omega arith), rows-marked w rs some (omega arith) (omega arith))

rows-plain : (w : ℕ) (rs : List Row) → largest_index rs < local_mark → largest_index rs < 2 ^ w → Kept false w rs
unfolding largest
rows-plain w [] h l = tt
rows-plain w (r ∷ rs) h l = (kept-plain w r.index (omega arith) (omega arith), rows-plain w rs (omega arith) (omega arith))

-- a low part is below the mark
pub low_below : (rs : List Row) → largest_low rs < local_mark
unfolding largest
low_below [] = omega arith
low_below (r ∷ rs) = omega (arith, low_below rs)

-- so 32 bits hold what the width of an index has to hold
module _ (rs : List Row) (small : Small rs) where
  pub index-narrowest : Narrowest (index_needs rs) (index_code rs)
  index-narrowest = code-narrowest (index_needs rs) (by (marked rs))
    where
      by : (b : Bool) → choose b (2 * largest_low rs) (largest_index rs) < field_bound
      by true = omega (arith, low_below rs)
      by false = small.indices

  -- the indices of rows, in the width that is chosen for them
  pub rows-kept : Kept (marked rs) (width_of (index_code rs)) rs
  rows-kept = by (marked rs) refl index-narrowest.holds
    where
      by : (b : Bool) → marked rs ≡ b → choose b (2 * largest_low rs) (largest_index rs) < 2 ^ width_of (index_code rs) → Kept b (width_of (index_code rs)) rs
      by true e h = rows-marked _ rs (omega (arith, width-least (index_code rs))) small.indices h
      by false e h = rows-plain _ rs (leb-false _ _ e) h
