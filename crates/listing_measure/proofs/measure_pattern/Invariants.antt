-- The loop's invariant: `Within`, what the samples so far did to the stretch in hand, with the mark of the last period.
use mathlib.Core.Path.{◌≡◌}
use Prim.Native.Nat.{◌-◌}
use lib.ListN.{length}
use Rattle.table_patterns.specs.Place.{pattern_in}
use Rattle.listing_measure.proofs.Within.{Within}
use Rattle.listing_measure.proofs.measure_pattern.Given as goal

abbrev pub invariant-loop-k : goal.invariant-loop-k
invariant-loop-k l =
    Within l.grouping_type l.s (pattern_in l.table_s l.pattern) l.initial.here l.limit l.k l.memory l.here l.mark × (length l.out ≡ length l.initial.out)

abbrev pub decreases-loop-k : goal.decreases-loop-k
decreases-loop-k l = l.count - l.k
