-- The loop's invariant: the landmarks before number k are set, `at` is the place of landmark k, and as many entries are left from it on.
use mathlib.Core.Path.{◌≡◌}
use Prim.Native.Nat.{◌+◌, ◌*◌}
use lib.ListN.{length}
use Rattle.group_sgpd.proofs.Marked.{MarkAt, MarksBelow}
use Rattle.group_sgpd.proofs.marks.entry_marks.Given as goal

abbrev pub invariant-loop-k : goal.invariant-loop-k
invariant-loop-k l =
    (length l.marks ≡ 16) × (l.k * l.apart + l.left ≡ l.count) × MarkAt l.s l.apart l.k l.at × MarksBelow l.s l.apart l.marks l.k
