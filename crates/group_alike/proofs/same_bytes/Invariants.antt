-- By length; of fewer than four bytes those before `i` are the same, and a byte that is the same is joined to them.
use Rattle.group_alike.specs.Front.{Over}
use Rattle.group_alike.proofs.same_bytes.Given as goal

abbrev pub invariant-loop-i : goal.invariant-loop-i
invariant-loop-i l = Over l.a l.b 0 l.i
