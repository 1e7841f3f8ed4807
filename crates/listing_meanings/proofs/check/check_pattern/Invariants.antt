-- The loop's invariant: the indices before position i passed, and the last of them has a meaning.
use Rattle.table_patterns.specs.Place.{pattern_in}
use Rattle.listing_meanings.specs.Meant.{meaning_in, HasMeaning}
use Rattle.listing_meanings.proofs.Checking.{PassedBefore}
use Rattle.listing_meanings.proofs.check.check_pattern.Given as goal

abbrev pub invariant-loop-i : goal.invariant-loop-i
invariant-loop-i l =
    PassedBefore (meaning_in l.grouping_type l.s) (pattern_in l.table_s l.pattern).indices l.i × HasMeaning l.grouping_type l.s l.last.0
