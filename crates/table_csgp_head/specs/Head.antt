-- What the reader of a csgp payload hands on: its fixed fields with the two places of its bit stream, and the patterns that are still ahead
-- of a place in it.
use Rattle.std.specs.Prelude.{◌≡◌, ℕ, zero, suc, ◌+◌, ◌-◌, ◌*◌, ◌≤◌, List, [], ◌∷◌, length, Result, Ok, Err}
use Rattle.base_fields.specs.Answer.{given, refused, input_limit}
use Rattle.base_fields.specs.Number.{be_at, bits_at}
use Rattle.base_fields.specs.Refusal.{number}
use Rattle.base_fields.specs.declared.refusal.Refusal.{Refusal}
use Rattle.table_front.specs.Front.{parameter_of, count_place}
use Rattle.table_front.specs.declared.TableKind.TheVariants.{Csgp}
use Rattle.table_patterns.specs.Place.{bit_count, pattern_in, Stands}
use Rattle.table_patterns.specs.declared.PatternAt.{PatternAt}
use Rattle.table_rows.specs.Pattern.{Pattern}
use Rattle.table_csgp_head.specs.Csgp.{index_width_of, count_width_of, length_width_of, has_marks, pattern_count_of, stream_place, index_place, Pair, read_pairs, read_from, read_all, csgp}
use Rattle.table_csgp_head.specs.declared.CsgpHead.{CsgpHead}
use Rattle.table_csgp_head.specs.declared.PatternsAt.{PatternsAt}
use Rattle.table_csgp_head.specs.declared.PatternPair.{PatternPair}

-- the fixed fields
pub record Fixed (s : List ℕ) (h : CsgpHead) : Type 0 where
  pub grouping_type_of : h.grouping_type ≡ be_at 4 s 4
  pub parameter : h.grouping_type_parameter ≡ parameter_of Csgp s
  pub count : h.pattern_count ≡ pattern_count_of s
  pub index_bits : h.index_width ≡ index_width_of s
  pub count_bits : h.count_width ≡ count_width_of s
  pub length_bits : h.length_width ≡ length_width_of s
  pub marked : h.marks ≡ has_marks s
  pub pairs_place : h.pairs ≡ stream_place s
  pub indices_place : h.indices ≡ index_place s
  pub short : length s ≤ input_limit
  pub whole : count_place Csgp s + 4 ≤ length s

-- after the fixed fields
abbrev pub GivesFixed : List ℕ → Result CsgpHead Refusal → Type 0
GivesFixed s (Ok h) = Fixed s h
GivesFixed s (Err e) = csgp s ≡ refused (number e)

-- after the pair table
abbrev pub GivesPairs : List ℕ → Result Unit Refusal → Type 0
GivesPairs s (Ok u) = index_place s ≤ bit_count s
GivesPairs s (Err e) = read_pairs (pattern_count_of s) s (stream_place s) ≡ refused (number e)

-- the pair at bit place p
abbrev pub pair_read : List ℕ → ℕ → Pair
pair_read s p = record { pattern_length = bits_at (length_width_of s) s p; sample_count_of = bits_at (count_width_of s) s (p + length_width_of s) }

-- the same as the code's struct
abbrev pub pair_of : List ℕ → ℕ → PatternPair
pair_of s p = record { length = (pair_read s p).pattern_length; count = (pair_read s p).sample_count_of }

-- the pattern whose pair stands at p and whose indices stand at q, and the places of the next one
abbrev pub place_at : List ℕ → ℕ → ℕ → PatternAt
place_at s p q = record { length = (pair_read s p).pattern_length; count = (pair_read s p).sample_count_of; width = index_width_of s; indices = q; marks = has_marks s }

abbrev pub pair_behind : List ℕ → ℕ → ℕ
pair_behind s p = p + length_width_of s + count_width_of s

abbrev pub indices_behind : List ℕ → ℕ → ℕ → ℕ
indices_behind s p q = q + index_width_of s * (pair_read s p).pattern_length

-- n patterns: their pairs from bit place p on, their indices from bit place q on
unfoldable pub patterns_from : ℕ → List ℕ → ℕ → ℕ → List Pattern
patterns_from zero s p q = []
patterns_from (suc n) s p q = pattern_in s (place_at s p q) ∷ patterns_from n s (pair_behind s p) (indices_behind s p q)

-- all of them are within the payload
unfoldable pub WholeFrom : ℕ → List ℕ → ℕ → ℕ → Type 0
WholeFrom zero s p q = Unit
WholeFrom (suc n) s p q = (pair_behind s p ≤ bit_count s) × Stands s (place_at s p q) × WholeFrom n s (pair_behind s p) (indices_behind s p q)

-- the patterns ahead of a place
abbrev pub ahead : List ℕ → PatternsAt → List Pattern
ahead s here = patterns_from here.left s here.pair here.indices

abbrev pub Whole : List ℕ → PatternsAt → Type 0
Whole s here = WholeFrom here.left s here.pair here.indices

-- after the patterns: n of them, their pairs from p on and their indices from q on, are read and are all there
pub record Read (n : ℕ) (s : List ℕ) (p q : ℕ) : Type 0 where
  pub whole : WholeFrom n s p q
  pub given : read_from n s p q ≡ given (patterns_from n s p q)

abbrev pub GivesPatterns : List ℕ → Result Unit Refusal → Type 0
GivesPatterns s (Ok u) = Read (pattern_count_of s) s (stream_place s) (index_place s)
GivesPatterns s (Err e) = read_all s ≡ refused (number e)

abbrev pub all_patterns : CsgpHead → PatternsAt
all_patterns h = record { left = h.pattern_count; pair = h.pairs; indices = h.indices }

abbrev pub patterns_behind : CsgpHead → PatternsAt → ℕ → PatternsAt
patterns_behind h here n =
    record {
      left = here.left - 1;
      pair = here.pair + h.length_width + h.count_width;
      indices = here.indices + h.index_width * n;
    }

-- places within the longest payload
abbrev pub bit_limit : ℕ
bit_limit = 8 * input_limit

abbrev pub Near : PatternsAt → Type 0
Near here = (here.pair ≤ bit_limit) × (here.indices ≤ bit_limit)

-- the head of a payload whose patterns are all there
pub record CsgpLaid (s : List ℕ) (h : CsgpHead) : Type 0 where
  pub fixed : Fixed s h
  pub whole : Whole s (all_patterns h)
  pub patterns : csgp s ≡ given (ahead s (all_patterns h))

abbrev pub GivesCsgp : List ℕ → Result CsgpHead Refusal → Type 0
GivesCsgp s (Ok h) = CsgpLaid s h
GivesCsgp s (Err e) = csgp s ≡ refused (number e)
