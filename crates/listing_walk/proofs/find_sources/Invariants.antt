-- The loop's invariant: the walk from here on, with what was taken so far, is the whole walk. The measure is what is left of the body.
use mathlib.Core.Path.{◌≡◌}
use Prim.Native.Nat.{◌-◌}
use lib.ListN.{length}
use Rattle.listing_spec.specs.Walk.{nothing, walk_from}
use Rattle.listing_walk.specs.Seen.{taken_of}
use Rattle.listing_walk.proofs.find_sources.Given as goal

abbrev pub invariant-loop-child : goal.invariant-loop-child
invariant-loop-child l = walk_from l.s l.grouping_type 0 nothing ≡ walk_from l.s l.grouping_type l.at (taken_of l.seen)

abbrev pub decreases-loop-child : goal.decreases-loop-child
decreases-loop-child l = length l.s - l.at
