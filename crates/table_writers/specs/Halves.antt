-- The fields of rows put into an output by half bytes.
use Rattle.std.specs.Prelude.{ℕ, ◌+◌, ◌*◌, ◌/◌, ◌%◌, ◌<◌, ◌≤◌, ◌≡◌, Bool, List, [], ◌∷◌, length, get_or}
use Rattle.base_fields.specs.Number.{field_bound}
use Rattle.table_rows.specs.Row.{Row}
use Rattle.table_writing.specs.Remaining.{largest_count}
use Rattle.table_writing.specs.Bodies.{index_bits}
use Rattle.table_writing.specs.Output.{half_put, number_put}

-- half byte h can be written: where it is the low half of a byte, that is 0
abbrev pub Free : ℕ → List ℕ → Type 0
Free h out = h % 2 ≡ 1 → get_or out (h / 2) 0 % 16 ≡ 0

-- the pattern length 1 and a count of m half bytes
abbrev pub pair_put : ℕ → ℕ → ℕ → List ℕ → List ℕ
pair_put m h count out = number_put m (h + 1) count (half_put h 1 out)

unfoldable pub pairs_put : ℕ → ℕ → List Row → List ℕ → List ℕ
pairs_put m h [] out = out
pairs_put m h (r ∷ rs) out = pairs_put m (h + 1 + m) rs (pair_put m h r.count out)

-- an index of m half bytes, with or without its mark
unfoldable pub indices_put : Bool → ℕ → ℕ → List Row → List ℕ → List ℕ
indices_put marks m h [] out = out
indices_put marks m h (r ∷ rs) out = indices_put marks m (h + m) rs (number_put m h (index_bits marks (4 * m) r.index) out)

-- rows can be put from half byte h on, `each` half bytes a row, `m` of them a number
pub record PutsRuns (rs : List Row) (each m h : ℕ) (out : List ℕ) : Type 0 where
  pub counts : largest_count rs < field_bound
  pub room : h + each * length rs ≤ 2 * length out
  pub width : m ≤ 8
  pub free : Free h out
