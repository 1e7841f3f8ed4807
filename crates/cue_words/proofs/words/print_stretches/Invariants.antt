-- Each turn tells some of the samples that are left.
use Rattle.std.proofs.Common.{◌-◌, ◌≤◌}
use Rattle.cue_words.proofs.words.print_stretches.Given as goal

abbrev pub invariant-loop-first : goal.invariant-loop-first
invariant-loop-first g l = l.first ≤ l.samples

abbrev pub decreases-loop-first : goal.decreases-loop-first
decreases-loop-first g l = l.samples - l.first
