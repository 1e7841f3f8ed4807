-- Payloads of a few patterns, their lengths and counts in four bits each: 67 among 26 and 27, and marks of each width (document 02, A7).
use mathlib.Core.Path.{◌≡◌, refl}
use Prim.Native.Nat.{ℕ}
use mathlib.Core.List.{List, [], ◌∷◌}
use Rattle.base_fields.specs.Answer.{given, refused}
use Rattle.base_fields.specs.Number.{be_at, bit_at, bits_at}
use Rattle.table_rows.specs.Pattern.{Pattern}
use Rattle.table_csgp_head.specs.Csgp.{width_of, read_pairs, read_indices, read_patterns, csgp}

-- type roll; n patterns, and their bits
abbrev body : ℕ → ℕ → List ℕ → List ℕ
body flags n bits = 0 ∷ 0 ∷ 0 ∷ flags ∷ 0x72 ∷ 0x6f ∷ 0x6c ∷ 0x6c ∷ 0 ∷ 0 ∷ 0 ∷ n ∷ bits

abbrev pattern : ℕ → List ℕ → Pattern
pattern count indices = record { indices = indices; count = count }

-- an index of 2^31, then a pattern of length 0: 67 before 26. One of 2^31 - 1: 26
large_then_empty : (csgp (body 0x03 2 (0x11 ∷ 0x01 ∷ 0x80 ∷ 0 ∷ 0 ∷ 0 ∷ [])) ≡ refused 67)
    × (csgp (body 0x03 2 (0x11 ∷ 0x01 ∷ 0x7f ∷ 0xff ∷ 0xff ∷ 0xff ∷ [])) ≡ refused 26)
unfolding csgp read_pairs read_indices read_patterns width_of be_at bit_at bits_at
large_then_empty = (refl, refl)

-- an index of 2^31, then one that is cut, in the same pattern and in the next: 67 before 27
large_then_cut : (csgp (body 0x03 1 (0x22 ∷ 0x80 ∷ 0 ∷ 0 ∷ 0 ∷ 0xff ∷ [])) ≡ refused 67)
    × (csgp (body 0x03 2 (0x11 ∷ 0x11 ∷ 0x80 ∷ 0 ∷ 0 ∷ 0 ∷ 0xff ∷ [])) ≡ refused 67)
unfolding csgp read_pairs read_indices read_patterns width_of be_at bit_at bits_at
large_then_cut = (refl, refl)

-- an index that is cut behind its highest bit: 27 before 67
cut-first : csgp (body 0x03 1 (0x11 ∷ 0xff ∷ 0xff ∷ 0xff ∷ [])) ≡ refused 27
unfolding csgp read_pairs read_indices read_patterns width_of be_at bit_at bits_at
cut-first = refl

-- an index that no sample uses, in a pattern of count 0 and behind the last sample
large-unused : (csgp (body 0x03 1 (0x10 ∷ 0x80 ∷ 0 ∷ 0 ∷ 0 ∷ [])) ≡ refused 67)
    × (csgp (body 0x03 1 (0x21 ∷ 0 ∷ 0 ∷ 0 ∷ 1 ∷ 0x80 ∷ 0 ∷ 0 ∷ 0 ∷ [])) ≡ refused 67)
unfolding csgp read_pairs read_indices read_patterns width_of be_at bit_at bits_at
large-unused = (refl, refl)

-- with flag bit 7, at each width: marked with low bits 0, 1 and all ones, and unmarked with all ones
marked_4 : csgp (body 0x80 1 (0x44 ∷ 0x89 ∷ 0xf7 ∷ [])) ≡ given (pattern 4 (0x80000000 ∷ 0x80000001 ∷ 0x80000007 ∷ 7 ∷ []) ∷ [])
unfolding csgp read_pairs read_indices read_patterns width_of be_at bit_at bits_at
marked_4 = refl

marked_8 : csgp (body 0x81 1 (0x44 ∷ 0x80 ∷ 0x81 ∷ 0xff ∷ 0x7f ∷ [])) ≡ given (pattern 4 (0x80000000 ∷ 0x80000001 ∷ 0x8000007f ∷ 127 ∷ []) ∷ [])
unfolding csgp read_pairs read_indices read_patterns width_of be_at bit_at bits_at
marked_8 = refl

marked_16 : csgp (body 0x82 1 (0x44 ∷ 0x80 ∷ 0 ∷ 0x80 ∷ 1 ∷ 0xff ∷ 0xff ∷ 0x7f ∷ 0xff ∷ []))
    ≡ given (pattern 4 (0x80000000 ∷ 0x80000001 ∷ 0x80007fff ∷ 32767 ∷ []) ∷ [])
unfolding csgp read_pairs read_indices read_patterns width_of be_at bit_at bits_at
marked_16 = refl

marked_32 : csgp (body 0x83 1 (0x33 ∷ 0x80 ∷ 0 ∷ 0 ∷ 0 ∷ 0x80 ∷ 0 ∷ 0 ∷ 1 ∷ 0xff ∷ 0xff ∷ 0xff ∷ 0xff ∷ []))
    ≡ given (pattern 3 (0x80000000 ∷ 0x80000001 ∷ 0xffffffff ∷ []) ∷ [])
unfolding csgp read_pairs read_indices read_patterns width_of be_at bit_at bits_at
marked_32 = refl

-- without it, the same bits are the index
unmarked_4 : csgp (body 0 1 (0x44 ∷ 0x89 ∷ 0xf7 ∷ [])) ≡ given (pattern 4 (8 ∷ 9 ∷ 15 ∷ 7 ∷ []) ∷ [])
unfolding csgp read_pairs read_indices read_patterns width_of be_at bit_at bits_at
unmarked_4 = refl
