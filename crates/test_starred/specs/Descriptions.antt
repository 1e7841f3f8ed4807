-- Descriptions: sgpd, and the typed entries.
use Rattle.std.specs.Prelude.{ℕ, List, [], ◌∷◌, negsuc, replicate}
use Rattle.base_fields.specs.Answer.{given, refused}
use Rattle.group_entries.specs.Decoded.{decode_roll, decode_rash, decode_alst}
use Rattle.group_sgpd.specs.Sgpd.{sgpd, entry_at}
use Rattle.base_fields.specs.Span.{Span}
use Rattle.test_starred.specs.Case.{Case, gives}

-- version 0, type "abcd", n entries in the bytes behind
abbrev pub shared : ℕ → List ℕ → List ℕ
shared n body = 0 ∷ 0 ∷ 0 ∷ 0 ∷ 0x61 ∷ 0x62 ∷ 0x63 ∷ 0x64 ∷ 0 ∷ 0 ∷ 0 ∷ n ∷ body

abbrev pub span : ℕ → ℕ → Span
span p n = record { place = p; size = n }

-- a rash of one point: count, share 7, maximum 8, minimum 9, and a priority if there is room for it
abbrev pub one_point : List ℕ → List ℕ
one_point priority = 0 ∷ 1 ∷ 0 ∷ 7 ∷ 0 ∷ 0 ∷ 0 ∷ 8 ∷ 0 ∷ 0 ∷ 0 ∷ 9 ∷ priority

abbrev pub descriptions : List Case
descriptions =
    -- 3 entries in 9 bytes have 3, 2 and 1 bytes; 2 in 3 have 1 and 1; 2 in 2 are refused
    gives (sgpd (shared 3 (replicate 9 0))) (given (span 12 3 ∷ span 15 2 ∷ span 17 1 ∷ [])) ∷
    gives (sgpd (shared 2 (replicate 3 0))) (given (span 12 1 ∷ span 13 1 ∷ [])) ∷
    gives (sgpd (shared 2 (replicate 2 0))) (refused 34) ∷
    gives (entry_at (shared 3 (replicate 9 0)) 2) (given (span 15 2)) ∷
    -- roll 0xFFFE is -2, 0x8000 is -32,768
    gives (decode_roll (0xff ∷ 0xfe ∷ [])) (given (negsuc 1)) ∷
    gives (decode_roll (0x80 ∷ 0x00 ∷ [])) (given (negsuc 32767)) ∷
    -- rash of one point: 13 bytes and 12
    gives (decode_rash (one_point (5 ∷ []))) (given (record { points = 1; maximum = 8; minimum = 9; priority = 5 })) ∷
    gives (decode_rash (one_point [])) (refused 43) ∷
    -- alst of roll count 0: 4 bytes and 5
    gives (decode_alst (0 ∷ 0 ∷ 0 ∷ 6 ∷ [])) (given (record { roll_count_of = 0; first_output = 6; pairs = 0 })) ∷
    gives (decode_alst (0 ∷ 0 ∷ 0 ∷ 6 ∷ 1 ∷ [])) (refused 45) ∷
    []
