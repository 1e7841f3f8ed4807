-- The loop's invariant: `Through`, where the listing ends by what is in hand and the patterns ahead.
use mathlib.Core.Path.{◌≡◌}
use lib.ListN.{length}
use Rattle.table_runs.specs.Ahead.{all_in, ahead_in, WholeIn}
use Rattle.listing_measure.proofs.Through.{Through}
use Rattle.listing_measure.proofs.measure_listing.Given as goal

abbrev pub invariant-loop-pattern : goal.invariant-loop-pattern
invariant-loop-pattern l =
    WholeIn l.table_s l.table l.here × Through l.grouping_type l.s (ahead_in l.table_s l.table (all_in l.table)) l.limit (ahead_in l.table_s l.table l.here) l.memory l.progress × (length l.out ≡ length l.initial.out)

abbrev pub decreases-loop-pattern : goal.decreases-loop-pattern
decreases-loop-pattern l = l.here.left
