-- The invariant: the pairs passed are put.
use Prim.Native.Nat.{◌*◌}
use Rattle.group_entries.specs.Decoded.{pair_at, up_to}
use Rattle.listing_theorem.specs.Listing.{each, pair_bytes}
use Rattle.listing_values.specs.Parts.{PutsWithin}
use Rattle.listing_values.proofs.alst.put_pairs.Given as goal

abbrev pub invariant-loop-k : goal.invariant-loop-k
invariant-loop-k l = PutsWithin (6 * l.k) (each pair_bytes (up_to (pair_at l.entry) 0 l.k)) l.at l.initial.out l.out l.place
