-- The loop's invariant: the first refusal of the whole table is that of the patterns ahead, and the last index that passed has a meaning.
use mathlib.Core.Path.{◌≡◌}
use Rattle.table_views.specs.Used.{used_in, first_refusal}
use Rattle.table_runs.specs.Ahead.{all_in, ahead_in, WholeIn}
use Rattle.listing_meanings.specs.Meant.{meaning_in, HasMeaning}
use Rattle.listing_meanings.proofs.check.check_used.Given as goal

abbrev pub invariant-loop-pattern : goal.invariant-loop-pattern
invariant-loop-pattern l =
    WholeIn l.table_s l.table l.here
    × (first_refusal (meaning_in l.grouping_type l.s) (used_in (ahead_in l.table_s l.table (all_in l.table))) ≡ first_refusal (meaning_in l.grouping_type l.s) (used_in (ahead_in l.table_s l.table l.here)))
    × HasMeaning l.grouping_type l.s l.last.0

abbrev pub decreases-loop-pattern : goal.decreases-loop-pattern
decreases-loop-pattern l = l.here.left
