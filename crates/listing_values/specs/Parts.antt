-- What the writers of a value's parts take, leave and tell.
use Rattle.std.specs.Prelude.{ℕ, ◌+◌, ◌≤◌, ◌≡◌, List, length}
use Rattle.base_fields.specs.Answer.{given, input_limit}
use Rattle.group_entries.specs.Decoded.{Decoded}
use Rattle.group_entries.specs.Layout.{decode_as}
use Rattle.group_entries.specs.declared.EntryLayout.{EntryLayout}
use Rattle.listing_numbers.specs.Store.{Puts, place_limit}

-- an entry that decodes, and a place for its value
pub record Ready (l : EntryLayout) (s : List ℕ) (p : ℕ) : Type 0 where
  pub short : length s ≤ input_limit
  pub place : p ≤ place_limit
  pub decodes : (v : Decoded) × (decode_as l s ≡ given v)

-- bytes of which there are at most `room`
pub record PutsWithin (room : ℕ) (bytes : List ℕ) (p : ℕ) (before after : List ℕ) (next : ℕ) : Type 0 where
  pub puts : Puts bytes p before after next
  pub near : next ≤ p + room
