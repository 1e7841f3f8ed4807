-- Part 4 of document 01: the patterns of a csgp payload. After the fixed fields comes one bit stream, high bit first, with no alignment.
use Rattle.std.specs.Prelude.{ℕ, zero, suc, ◌+◌, ◌*◌, ◌/◌, ◌%◌, Bool, false, List, [], ◌∷◌, ltb, leb, eqb}
use Rattle.base_fields.specs.Answer.{Answer, given, choose, refuse_if, and_then}
use Rattle.base_fields.specs.Number.{be_at, bits_at}
use Rattle.base_ids.specs.Limits.{local_mark}
use Rattle.table_front.specs.Front.{count_place, count_of, fronted}
use Rattle.table_front.specs.declared.TableKind.TheVariants.{Csgp}
use Rattle.table_patterns.specs.Place.{bit_count, index_field}
use Rattle.table_rows.specs.Pattern.{Pattern}

-- the width in bits that a code of two bits names: 4, 8, 16 or 32
unfoldable pub width_of : ℕ → ℕ
width_of code = choose (eqb code 0) 4 (choose (eqb code 1) 8 (choose (eqb code 2) 16 32))

-- flag bits 0-1, 2-3, 4-5 and 7, all in byte 3
abbrev pub flags : List ℕ → ℕ
flags s = be_at 1 s 3

abbrev pub index_width_of : List ℕ → ℕ
index_width_of s = width_of (flags s % 4)

abbrev pub count_width_of : List ℕ → ℕ
count_width_of s = width_of (flags s / 4 % 4)

abbrev pub length_width_of : List ℕ → ℕ
length_width_of s = width_of (flags s / 16 % 4)

-- flag bit 7: the highest bit of each index is a mark (document 02, A7)
abbrev pub has_marks : List ℕ → Bool
has_marks s = eqb (flags s / 128 % 2) 1

abbrev pub pattern_count_of : List ℕ → ℕ
pattern_count_of s = count_of Csgp s

-- the bit place of the stream
abbrev pub stream_place : List ℕ → ℕ
stream_place s = 8 * (count_place Csgp s + 4)

-- a row of the pair table
pub record Pair : Type 0 where
  pub pattern_length : ℕ
  pub sample_count_of : ℕ

-- n pairs from bit place p, read whole: 24 length cut, 25 count cut
unfoldable pub read_pairs : ℕ → List ℕ → ℕ → Answer (List Pair)
read_pairs zero s p = given []
read_pairs (suc n) s p =
    refuse_if (ltb (bit_count s) (p + length_width_of s)) 24
    (refuse_if (ltb (bit_count s) (p + length_width_of s + count_width_of s)) 25
    (and_then (read_pairs n s (p + length_width_of s + count_width_of s))
    (λ rest. given
    (record { pattern_length = bits_at (length_width_of s) s p; sample_count_of = bits_at (count_width_of s) s (p + length_width_of s) } ∷ rest))))

-- an index of 2^31 or more where there are no marks
abbrev pub too_large : List ℕ → ℕ → Bool
too_large s p = choose (has_marks s) false (leb local_mark (bits_at (index_width_of s) s p))

-- n indices from bit place p: 27 index cut; directly after it, for the same index, 67 index too large (document 02, A7)
unfoldable pub read_indices : ℕ → List ℕ → ℕ → Answer (List ℕ)
read_indices zero s p = given []
read_indices (suc n) s p =
    refuse_if (ltb (bit_count s) (p + index_width_of s)) 27
    (refuse_if (too_large s p) 67
    (and_then (read_indices n s (p + index_width_of s)) (λ rest. given (index_field (has_marks s) (index_width_of s) s p ∷ rest))))

-- the patterns of the pair table, their indices from bit place p: per pattern 26 length 0, then 27 and 67
unfoldable pub read_patterns : List Pair → List ℕ → ℕ → Answer (List Pattern)
read_patterns [] s p = given []
read_patterns (r ∷ rs) s p =
    refuse_if (eqb r.pattern_length 0) 26
    (and_then (read_indices r.pattern_length s p)
    (λ is. and_then (read_patterns rs s (p + index_width_of s * r.pattern_length))
    (λ rest. given (record { indices = is; count = r.sample_count_of } ∷ rest))))

-- the indices begin behind the whole pair table
abbrev pub index_place : List ℕ → ℕ
index_place s = stream_place s + pattern_count_of s * (length_width_of s + count_width_of s)

-- n patterns: their pairs from bit place p on, then their indices from bit place q on
abbrev pub read_from : ℕ → List ℕ → ℕ → ℕ → Answer (List Pattern)
read_from n s p q = and_then (read_pairs n s p) (λ rs. read_patterns rs s q)

-- all patterns of a payload: 24, 25, then per pattern 26, 27, 67
abbrev pub read_all : List ℕ → Answer (List Pattern)
read_all s = read_from (pattern_count_of s) s (stream_place s) (index_place s)

-- 55, 20, 21, 22 before them
unfoldable pub csgp : List ℕ → Answer (List Pattern)
csgp s = fronted Csgp s (read_all s)
