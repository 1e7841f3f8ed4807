-- The loop's invariant: what is ahead decides the whole (`Checked`).
use Rattle.table_csgp_head.proofs.Checked.{Checked}
use Rattle.table_csgp_head.proofs.head.check_patterns.Given as goal

abbrev pub invariant-loop-here : goal.invariant-loop-here
invariant-loop-here l = Checked l.s l.here

abbrev pub decreases-loop-here : goal.decreases-loop-here
decreases-loop-here l = l.here.left
