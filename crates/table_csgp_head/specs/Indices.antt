-- The check of a pattern's indices: how many of them are there, and whether one of these is too large.
use Rattle.std.specs.Prelude.{◌≡◌, Bool, true, false, ℕ, suc, ◌+◌, ◌*◌, ◌<◌, ◌≤◌, List, eqb, Result, Ok, Err}
use Rattle.base_fields.specs.Answer.{given, refused, choose}
use Rattle.base_fields.specs.Number.{bit_at}
use Rattle.base_fields.specs.Refusal.{number}
use Rattle.base_fields.specs.declared.refusal.Refusal.{Refusal}
use Rattle.table_patterns.specs.Place.{bit_count, indices_at}
use Rattle.table_csgp_head.specs.Csgp.{has_marks, index_width_of, too_large, read_indices}

-- only an index of 32 bits without a mark can be too large
abbrev pub can_be_large_by : List ℕ → Bool
can_be_large_by s = choose (has_marks s) false (eqb (index_width_of s) 32)

-- whether one of n fields of 32 bits from bit place q on has its highest bit
abbrev pub GivesHighest : List ℕ → ℕ → ℕ → Bool → Type 0
GivesHighest s q n true = (j : ℕ) × (j < n) × (bit_at s (q + 32 * j) ≡ 1)
GivesHighest s q n false = (j : ℕ) → j < n → bit_at s (q + 32 * j) ≡ 0

-- whether one of n indices from bit place q on is too large
abbrev pub GivesLarge : List ℕ → ℕ → ℕ → Bool → Type 0
GivesLarge s q n true = (j : ℕ) × (j < n) × (too_large s (q + index_width_of s * j) ≡ true)
GivesLarge s q n false = (j : ℕ) → j < n → too_large s (q + index_width_of s * j) ≡ false

-- m of the n indices from bit place q on are there, and the next of them is cut
pub record IndicesThere (s : List ℕ) (q n m : ℕ) : Type 0 where
  pub few : m ≤ n
  pub inside : q + index_width_of s * m ≤ bit_count s
  pub cut : m < n → bit_count s < q + index_width_of s * suc m

-- all n of them are there, and are read
pub record IndicesRead (s : List ℕ) (q n : ℕ) : Type 0 where
  pub inside : q + index_width_of s * n ≤ bit_count s
  pub read : read_indices n s q ≡ given (indices_at (has_marks s) (index_width_of s) n s q)

abbrev pub GivesIndices : List ℕ → ℕ → ℕ → Result Unit Refusal → Type 0
GivesIndices s q n (Ok u) = IndicesRead s q n
GivesIndices s q n (Err e) = read_indices n s q ≡ refused (number e)
