-- The loop's invariant: the number is below the unit of the next group, and that fits.
use Rattle.std.proofs.Common.{◌-◌, ◌<◌, ◌≤◌}
use Rattle.cue_words.proofs.rest.Rest.number.Given as goal

abbrev pub invariant-loop-unit : goal.invariant-loop-unit
invariant-loop-unit l = (l.value < l.unit) × (l.unit ≤ 9223372036854775808)

abbrev pub decreases-loop-unit : goal.decreases-loop-unit
decreases-loop-unit l = 9223372036854775808 - l.unit
