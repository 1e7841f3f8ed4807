-- The loop's invariant: the words so far are the first one (`words_more`).
use Prim.Native.Nat.{◌-◌}
use Rattle.table_patterns.specs.Run.{SameWords}
use Rattle.table_patterns.proofs.run.equal_words.Given as goal

abbrev pub invariant-loop-end : goal.invariant-loop-end
invariant-loop-end l = SameWords l.s l.at l.stop l.end

abbrev pub decreases-loop-end : goal.decreases-loop-end
decreases-loop-end l = l.stop - l.end
