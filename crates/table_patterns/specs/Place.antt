-- A pattern in a payload: its indices stand one behind the other in a stream of bits (document 01, part 4).
use Rattle.std.specs.Prelude.{ℕ, zero, suc, ◌+◌, ◌-◌, ◌*◌, ◌/◌, ◌%◌, ◌^◌, ◌≤◌, ◌<◌, Bool, List, [], ◌∷◌, length}
use Rattle.base_fields.specs.Answer.{choose, input_limit}
use Rattle.base_fields.specs.Number.{bits_at}
use Rattle.base_ids.specs.Limits.{local_mark}
use Rattle.table_rows.specs.Pattern.{Pattern}
use Rattle.table_patterns.specs.declared.PatternAt.{PatternAt}

abbrev pub bit_count : List ℕ → ℕ
bit_count s = 8 * length s

-- the index that a field of `width` bits holds. Where indices have marks (document 02, A7), the highest of its bits is the mark, which goes to bit 31,
-- and the low bits are the index
abbrev pub index_value : Bool → ℕ → ℕ → ℕ
index_value marks width bits = choose marks (bits / 2 ^ (width - 1) * local_mark + bits % 2 ^ (width - 1)) bits

-- the value of the index in `width` bits from bit place p
abbrev pub index_field : Bool → ℕ → List ℕ → ℕ → ℕ
index_field marks width s p = index_value marks width (bits_at width s p)

-- the bits of field number i, counted from 0, of those from bit place p on, and the index that it holds
abbrev pub field_number : ℕ → List ℕ → ℕ → ℕ → ℕ
field_number width s p i = bits_at width s (p + width * i)

abbrev pub index_number : Bool → ℕ → List ℕ → ℕ → ℕ → ℕ
index_number marks width s p i = index_field marks width s (p + width * i)

-- n indices from bit place p on
unfoldable pub indices_at : Bool → ℕ → ℕ → List ℕ → ℕ → List ℕ
indices_at marks width zero s p = []
indices_at marks width (suc n) s p = index_field marks width s p ∷ indices_at marks width n s (p + width)

-- the pattern that stands at a place
abbrev pub pattern_in : List ℕ → PatternAt → Pattern
pattern_in s p = record { indices = indices_at p.marks p.width p.length s p.indices; count = p.count }

-- it has an index at least, and all of them are within the payload; eight bytes end with the first one, or before
pub record Stands (s : List ℕ) (p : PatternAt) : Type 0 where
  pub wide : 1 ≤ p.width
  pub narrow : p.width ≤ 32
  pub some : 0 < p.length
  pub late : 64 ≤ p.indices + p.width
  pub inside : p.indices + p.width * p.length ≤ bit_count s
  pub short : length s ≤ input_limit
