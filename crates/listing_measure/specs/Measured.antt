-- How long a listing is: pattern by pattern, and whole.
use Rattle.std.specs.Prelude.{ℕ, ◌+◌, ◌≤◌, ◌<◌, ◌≡◌, Option, Some, None, List, [], ◌++◌, map, length}
use Rattle.table_rows.specs.Pattern.{Pattern, index_in, samples_from, samples_of, covered_by, index_of}
use Rattle.listing_theorem.specs.Meaning.{Meaning}
use Rattle.listing_theorem.specs.Listing.{listing}
use Rattle.listing_meanings.specs.Meant.{HasMeaning}
use Rattle.listing_stretches.specs.Ahead.{end_after, Moves}
use Rattle.listing_stretches.specs.Entered.{InHand, Recalls, meaning_by}
use Rattle.listing_stretches.specs.declared.Progress.{Progress}

-- every sample has a meaning: of a pattern, of a table
abbrev pub PatternMeans : ℕ → List ℕ → Pattern → Type 0
PatternMeans t s p = (k : ℕ) → k < p.count → HasMeaning t s (index_in p k)

abbrev pub AllMean : ℕ → List ℕ → List Pattern → Type 0
AllMean t s ps = (k : ℕ) → k < covered_by ps → HasMeaning t s (index_of ps k)

-- the meaning of each sample
abbrev pub meanings_by : ℕ → List ℕ → List ℕ → List Meaning
meanings_by t s l = map (meaning_by t s) l

-- a pattern's samples take one hand to the next
pub record Measures (t : ℕ) (s : List ℕ) (p : Pattern) (from : Progress) (limit : ℕ) (memory : List ℕ) (r : Progress) : Type 0 where
  pub held : InHand t s r
  pub alike : Recalls t s r memory
  pub moves : Moves (meaning_by t s) p 0 p.count from.hand r.hand
  pub near : r.hand.at ≤ limit
  pub samples : r.hand.samples ≤ from.hand.samples + p.count

-- or the output passes the limit, whatever follows
abbrev pub GivesMeasuring : ℕ → List ℕ → Pattern → Progress → ℕ → List ℕ → Option Progress → Type 0
GivesMeasuring t s p from limit memory (Some r) = Measures t s p from limit memory r
GivesMeasuring t s p from limit memory None =
    (rest : List Meaning) → limit < end_after (meaning_by t s) from.hand (meanings_by t s (samples_from p 0 p.count) ++ rest)

-- the listing of a table's samples
abbrev pub listing_of : ℕ → List ℕ → List Pattern → List ℕ
listing_of t s ps = listing t (meanings_by t s (samples_of ps))

abbrev pub GivesLength : ℕ → List ℕ → List Pattern → ℕ → Option ℕ → Type 0
GivesLength t s ps limit (Some n) = (n ≡ length (listing_of t s ps)) × (n ≤ limit)
GivesLength t s ps limit None = limit < length (listing_of t s ps)

-- where no sample is left: the end of what is in hand, or that it passes the limit
abbrev pub GivesEnd : ℕ → List ℕ → Progress → ℕ → Option ℕ → Type 0
GivesEnd t s from limit (Some n) = (n ≡ end_after (meaning_by t s) from.hand []) × (n ≤ limit)
GivesEnd t s from limit None = limit < end_after (meaning_by t s) from.hand []
