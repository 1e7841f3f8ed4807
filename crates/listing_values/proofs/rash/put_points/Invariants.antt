-- The invariant: the points passed are put.
use Prim.Native.Nat.{◌*◌}
use Rattle.group_entries.specs.Decoded.{point_at, up_to}
use Rattle.listing_theorem.specs.Listing.{each, point_bytes}
use Rattle.listing_values.specs.Parts.{PutsWithin}
use Rattle.listing_values.proofs.rash.put_points.Given as goal

abbrev pub invariant-loop-k : goal.invariant-loop-k
invariant-loop-k l = PutsWithin (8 * l.k) (each point_bytes (up_to (point_at l.entry) 0 l.k)) l.at l.initial.out l.out l.place
