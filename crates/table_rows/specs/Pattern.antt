-- Patterns (document 01, part 4): indices that are repeated over a number of samples. An sbgp row is a pattern of length 1.
use Rattle.std.specs.Prelude.{ℕ, zero, suc, ◌+◌, ◌-◌, ◌%◌, List, [], ◌∷◌, ◌++◌, ltb, length, get_or}
use Rattle.base_fields.specs.Answer.{choose}
use Rattle.table_rows.specs.Row.{Row}

pub record Pattern : Type 0 where
  pub indices : List ℕ
  pub count : ℕ

-- sample k of a pattern has the index at k modulo the length
unfoldable pub index_in : Pattern → ℕ → ℕ
index_in p k = get_or p.indices (k % length p.indices) 0

-- the indices of n samples of a pattern, from sample k on
unfoldable pub samples_from : Pattern → ℕ → ℕ → List ℕ
samples_from p k zero = []
samples_from p k (suc n) = index_in p k ∷ samples_from p (suc k) n

-- the index of each sample of a table, in order
unfoldable pub samples_of : List Pattern → List ℕ
samples_of [] = []
samples_of (p ∷ ps) = samples_from p 0 p.count ++ samples_of ps

-- how many samples a table covers
unfoldable pub covered_by : List Pattern → ℕ
covered_by [] = 0
covered_by (p ∷ ps) = p.count + covered_by ps

-- the index that its pattern gives sample k of a table; 0 past the end
unfoldable pub index_of : List Pattern → ℕ → ℕ
index_of [] k = 0
index_of (p ∷ ps) k = choose (ltb k p.count) (index_in p k) (index_of ps (k - p.count))

-- an sbgp row as a pattern
abbrev pub single : Row → Pattern
single r = record { indices = r.index ∷ []; count = r.count }
