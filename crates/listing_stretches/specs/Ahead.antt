-- The bytes of stretches that are still to come, where one that may grow is in hand.
use Rattle.std.specs.Prelude.{ℕ, ◌+◌, ◌≤◌, ◌<◌, ◌≡◌, List, ◌++◌, map, length, replicate}
use Rattle.base_fields.specs.Answer.{Answer, given, none, refused}
use Rattle.table_rows.specs.Pattern.{Pattern, samples_from}
use Rattle.listing_theorem.specs.Meaning.{Meaning, outside}
use Rattle.listing_theorem.specs.Stretches.{stretches}
use Rattle.listing_theorem.specs.Listing.{each, stretch_bytes}
use Rattle.listing_stretches.specs.declared.Hand.{Hand}

-- c samples of meaning m, and those of `rest` behind them
unfoldable pub bytes_ahead : ℕ → Meaning → List Meaning → List ℕ
bytes_ahead c m rest = each stretch_bytes (stretches (replicate c m ++ rest))

-- where the output ends, if the meanings `rest` follow; m gives the meaning of an index
abbrev pub end_after : (ℕ → Meaning) → Hand → List Meaning → ℕ
end_after m h rest = h.at + length (bytes_ahead h.samples (m h.index) rest)

-- n samples of a pattern, from sample k on, take one hand to the next
abbrev pub Moves : (ℕ → Meaning) → Pattern → ℕ → ℕ → Hand → Hand → Type 0
Moves m p k n h next = (rest : List Meaning) → end_after m h (map m (samples_from p k n) ++ rest) ≡ end_after m next rest

-- n samples of index i take a hand to the next. Where no byte was added to a stretch in hand, they joined it
pub record Enters (m : ℕ → Meaning) (h : Hand) (n i : ℕ) (next : Hand) : Type 0 where
  pub ends : (rest : List Meaning) → end_after m h (replicate n (m i) ++ rest) ≡ end_after m next rest
  pub lower : h.at ≤ next.at
  pub joins : 0 < h.samples → next.at ≡ h.at → (m i ≡ m h.index) × (next.index ≡ h.index) × (0 < next.samples)

-- the meaning of an index whose entry, if it has one, decodes
abbrev pub meaning_or : Answer Meaning → Meaning
meaning_or (given m) = m
meaning_or none = outside
meaning_or (refused n) = outside
