-- Whole periods of a pattern that are passed in one step, in numbers.
use Rattle.std.specs.Prelude.{ℕ, ◌+◌, ◌-◌, ◌*◌, ◌≤◌, ◌<◌, ◌≡◌, ◌⊎◌, Option, Some, None}
use Rattle.listing_stretches.specs.declared.Hand.{Hand}
use Rattle.listing_stretches.specs.declared.Mark.{Mark}

-- n periods later: d bytes more for each, or as many samples
abbrev pub repeated : Hand → ℕ → ℕ → Hand
repeated h d n = record { at = h.at + n * d; samples = h.samples; index = h.index }

abbrev pub lengthened : Hand → ℕ → ℕ → Hand
lengthened h length n = record { at = h.at; samples = h.samples + n * length; index = h.index }

abbrev pub GivesRepeated : Hand → ℕ → ℕ → ℕ → ℕ → ℕ → Option (Hand × ℕ × Mark) → Type 0
GivesRepeated h d k length n limit (Some (next, j, mark)) =
    (next ≡ repeated h d n) × (j ≡ k + n * length) × (mark ≡ record { sample = j; hand = next }) × (next.at ≤ limit)
GivesRepeated h d k length n limit None = limit < (repeated h d n).at

-- the samples since the mark are one period, which left the stretch in hand as it found it
pub record LikePeriod (mark : Mark) (hand : Hand) (k length : ℕ) : Type 0 where
  pub period : k ≡ mark.sample + length
  pub samples : hand.samples ≡ mark.hand.samples
  pub index : hand.index ≡ mark.hand.index

-- they are one period, which joined that stretch: no byte was added
pub record JoinedPeriod (mark : Mark) (hand : Hand) (k length : ℕ) : Type 0 where
  pub period : k ≡ mark.sample + length
  pub some : 0 < mark.hand.samples
  pub at : hand.at ≡ mark.hand.at

-- n periods more
abbrev pub Later : Mark → Hand → ℕ → ℕ → ℕ → Hand → Type 0
Later mark hand k length n next =
    ((n ≡ 0) × (next ≡ hand))
    ⊎ ((LikePeriod mark hand k length × (next ≡ repeated hand (hand.at - mark.hand.at) n))
    ⊎ (JoinedPeriod mark hand k length × (next ≡ lengthened hand length n)))

-- periods passed: what is in hand, the samples and the mark afterwards
pub record Passes (mark : Mark) (hand : Hand) (k length count limit : ℕ) (next : Hand) (j : ℕ) (to : Mark) : Type 0 where
  pub periods : ℕ
  pub within : k + periods * length ≤ count
  pub sample : j ≡ k + periods * length
  pub later : Later mark hand k length periods next
  pub near : next.at ≤ limit
  pub marks : ((periods ≡ 0) × (next ≡ hand) × (to ≡ mark)) ⊎ (to ≡ record { sample = j; hand = next })

-- periods whose bytes are too many
pub record Overlong (mark : Mark) (hand : Hand) (k length count limit : ℕ) : Type 0 where
  pub periods : ℕ
  pub within : k + periods * length ≤ count
  pub like : LikePeriod mark hand k length
  pub over : limit < (repeated hand (hand.at - mark.hand.at) periods).at

abbrev pub GivesPassed : Mark → Hand → ℕ → ℕ → ℕ → ℕ → Option (Hand × ℕ × Mark) → Type 0
GivesPassed mark hand k length count limit (Some (next, j, to)) = Passes mark hand k length count limit next j to
GivesPassed mark hand k length count limit None = Overlong mark hand k length count limit
