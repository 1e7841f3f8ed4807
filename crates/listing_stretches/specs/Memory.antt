-- Indices that are remembered with the stretch in hand: a memory of sixteen places, and a number of those that are filled. Behind 16 the number goes round, from 16 to 31: it
-- tells the place that is next.
use Rattle.std.specs.Prelude.{ℕ, ◌+◌, ◌<◌, ◌≡◌, Bool, true, false, List, length, get_or, ltb}
use Rattle.base_fields.specs.Answer.{choose}
use Rattle.listing_theorem.specs.Meaning.{Meaning}

-- the indices in filled places have the meaning v
pub record Remembered (m : ℕ → Meaning) (v : Meaning) (kept : ℕ) (l : List ℕ) : Type 0 where
  pub places : length l ≡ 16
  pub means : (k : ℕ) → k < 16 → k < kept → m (get_or l k 0) ≡ v

-- a filled place has an index
abbrev pub Keeps : ℕ → List ℕ → ℕ → Type 0
Keeps kept l i = (k : ℕ) × (k < 16) × (k < kept) × (get_or l k 0 ≡ i)

abbrev pub GivesKept : ℕ → List ℕ → ℕ → Bool → Type 0
GivesKept kept l i true = Keeps kept l i
GivesKept kept l i false = Keeps kept l i → ⊥

-- the number behind one place more
abbrev pub kept_next : ℕ → ℕ
kept_next kept = choose (ltb kept 31) (kept + 1) 16
