-- Limits of rows (document 01, parts 3 and 4).
use Rattle.std.specs.Prelude.{ℕ}

-- the largest count of a row
abbrev pub count_limit : ℕ
count_limit = 4294967295

-- the value of bit 31 of an index: the mark that it is local to a fragment (document 01, part 9; document 02, A7)
abbrev pub local_mark : ℕ
local_mark = 2147483648

-- the most records that a call reads
abbrev pub record_limit : ℕ
record_limit = 8388608
