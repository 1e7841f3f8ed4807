-- The invariant: the offsets passed are put.
use Prim.Native.Nat.{◌*◌}
use Rattle.group_entries.specs.Decoded.{offset_at, up_to}
use Rattle.listing_theorem.specs.Groups.{groups}
use Rattle.listing_theorem.specs.Listing.{each}
use Rattle.listing_values.specs.Parts.{PutsWithin}
use Rattle.listing_values.proofs.alst.put_offsets.Given as goal

abbrev pub invariant-loop-k : goal.invariant-loop-k
invariant-loop-k l = PutsWithin (5 * l.k) (each groups (up_to (offset_at l.entry) 0 l.k)) l.at l.initial.out l.out l.place
