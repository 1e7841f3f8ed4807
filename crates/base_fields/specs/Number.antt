-- Numbers in files (document 01: big-endian; in csgp one bit stream, high bit first). A byte or bit past the end counts as 0.
use Rattle.std.specs.Prelude.{ℕ, zero, suc, ◌+◌, ◌-◌, ◌*◌, ◌/◌, ◌%◌, ◌^◌, List, get_or}

-- the number in the w bytes from place p, highest byte first
unfoldable pub be_at : ℕ → List ℕ → ℕ → ℕ
be_at zero s p = 0
be_at (suc w) s p = be_at w s p * 256 + get_or s (p + w) 0

-- bit p of the stream, counted from the high bit of byte 0
unfoldable pub bit_at : List ℕ → ℕ → ℕ
bit_at s p = get_or s (p / 8) 0 / 2 ^ (7 - p % 8) % 2

-- the number in the w bits from bit place p, high bit first
unfoldable pub bits_at : ℕ → List ℕ → ℕ → ℕ
bits_at zero s p = 0
bits_at (suc w) s p = bits_at w s p * 2 + bit_at s (p + w)

-- one more than the largest number of a 32-bit field
abbrev pub field_bound : ℕ
field_bound = 4294967296
