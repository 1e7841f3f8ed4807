-- What a writer of an entry's value leaves and tells.
use Rattle.std.specs.Prelude.{ℕ, ◌+◌, ◌≤◌, ◌≡◌, List}
use Rattle.base_fields.specs.Answer.{given}
use Rattle.group_entries.specs.Decoded.{Decoded}
use Rattle.group_entries.specs.Layout.{decode_as}
use Rattle.group_entries.specs.declared.EntryLayout.{EntryLayout}
use Rattle.listing_theorem.specs.Listing.{value_bytes}
use Rattle.listing_numbers.specs.Store.{Puts}

-- no value has more bytes
abbrev pub value_limit : ℕ
value_limit = 268435456

-- the bytes of the value that the entry s decodes to, from place p on
pub record PutsValue (l : EntryLayout) (s : List ℕ) (p : ℕ) (before after : List ℕ) (next : ℕ) : Type 0 where
  pub puts : (v : Decoded) → decode_as l s ≡ given v → Puts (value_bytes v) p before after next
  pub near : next ≤ p + value_limit
