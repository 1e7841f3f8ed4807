-- A run of samples entered: what is in hand afterwards, and what was stored.
use Rattle.std.specs.Prelude.{ℕ, ◌+◌, ◌≤◌, ◌<◌, ◌≡◌, List, [], ◌++◌, length, replicate}
use Rattle.base_fields.specs.Answer.{given}
use Rattle.listing_theorem.specs.Meaning.{Meaning}
use Rattle.listing_theorem.specs.Groups.{groups}
use Rattle.listing_theorem.specs.Listing.{stretch_bytes, type_bytes}
use Rattle.listing_numbers.specs.Store.{stored, Puts}
use Rattle.listing_meanings.specs.Meant.{meant_at, meaning_in, GivesMeaning, HasMeaning}
use Rattle.listing_meanings.specs.declared.MeaningAt.{MeaningAt}
use Rattle.listing_meanings.specs.declared.MeaningAt.TheVariants as at
use Rattle.listing_stretches.specs.Ahead.{bytes_ahead, meaning_or}
use Rattle.listing_stretches.specs.Memory.{Remembered}
use Rattle.listing_stretches.specs.declared.Progress.{Progress}

-- no lent output is longer
abbrev pub output_limit : ℕ
output_limit = 9223372036854775808

-- no stretch has more bytes
abbrev pub stretch_limit : ℕ
stretch_limit = 268435476

-- the bytes of a stretch from place p on
pub record PutsStretch (t : ℕ) (s : List ℕ) (samples : ℕ) (meaning : MeaningAt) (p : ℕ) (before after : List ℕ) (next : ℕ) : Type 0 where
  pub puts : (m : Meaning) → meant_at t s meaning ≡ given m → Puts (stretch_bytes (record { samples = samples; meaning = m })) p before after next
  pub near : next ≤ p + stretch_limit

abbrev pub joined_by : Progress → ℕ → ℕ → Progress
joined_by p n kept = record { hand = record { at = p.hand.at; samples = p.hand.samples + n; index = p.hand.index }; meaning = p.meaning; kept = kept }

abbrev pub begun_with : ℕ → ℕ → ℕ → MeaningAt → Progress
begun_with at n i meaning = record { hand = record { at = at; samples = n; index = i }; meaning = meaning; kept = 0 }

-- the meaning of an index that has one
abbrev pub meaning_by : ℕ → List ℕ → ℕ → Meaning
meaning_by t s i = meaning_or (meaning_in t s i)

-- what is in hand has a meaning, and it is told
pub record InHand (t : ℕ) (s : List ℕ) (p : Progress) : Type 0 where
  pub meant : GivesMeaning s p.hand.index p.meaning
  pub known : HasMeaning t s p.hand.index

-- the indices that a memory keeps mean the same
abbrev pub Recalls : ℕ → List ℕ → Progress → List ℕ → Type 0
Recalls t s p memory = Remembered (meaning_by t s) (meaning_by t s p.hand.index) p.kept memory

-- n samples of index i, entered into p, leave r in hand. Where nothing was stored and a stretch was in hand, they joined it
pub record GivesEntered (t : ℕ) (s before after : List ℕ) (p : Progress) (n i : ℕ) (r : Progress) : Type 0 where
  pub held : InHand t s r
  pub written : List ℕ
  pub output : after ≡ stored written p.hand.at before
  pub next : r.hand.at ≡ p.hand.at + length written
  pub bytes : (rest : List Meaning) → bytes_ahead p.hand.samples (meaning_by t s p.hand.index) (replicate n (meaning_by t s i) ++ rest)
      ≡ written ++ bytes_ahead r.hand.samples (meaning_by t s r.hand.index) rest
  pub joins : 0 < p.hand.samples → written ≡ [] → (meaning_by t s i ≡ meaning_by t s p.hand.index) × (r.hand.index ≡ p.hand.index) × (0 < r.hand.samples)
  pub samples : r.hand.samples ≤ p.hand.samples + n
  pub near : r.hand.at ≤ p.hand.at + stretch_limit

-- at the start: the type, the covered samples, and nothing in hand
pub record GivesBegun (t covered : ℕ) (before after : List ℕ) (r : Progress) : Type 0 where
  pub output : after ≡ stored (type_bytes t ++ groups covered) 0 before
  pub hand : r ≡ begun_with (length (type_bytes t ++ groups covered)) 0 0 at.Outside
  pub near : r.hand.at ≤ 14

-- at the end: the bytes that are still to come where no sample is left, and the place behind them
pub record GivesClosed (t : ℕ) (s before after : List ℕ) (p : Progress) (r : ℕ) : Type 0 where
  pub puts : Puts (bytes_ahead p.hand.samples (meaning_by t s p.hand.index) []) p.hand.at before after r
  pub near : r ≤ p.hand.at + stretch_limit
