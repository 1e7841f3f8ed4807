-- The invariant is `Turn`: no record was stored before it was read.
use mathlib.Core.Path.{◌≡◌}
use lib.ListN.{length}
use Rattle.table_repaint.specs.Cut.{run}
use Rattle.table_repaint.specs.Pass.{work_in}
use Rattle.table_repaint.proofs.Turn.{Turn}
use Rattle.table_repaint.proofs.Loop.{made_of}
use Rattle.table_repaint.proofs.write.write_repainted.Given as goal

abbrev pub invariant-loop-j : goal.invariant-loop-j
invariant-loop-j l =
    (length l.rows ≡ length l.initial.rows)
    × Turn l.initial.rows (made_of l.initial.rows l.stated l.a l.b l.paint) l.stated l.j (run l.count l.index) l.from l.to l.paint (work_in l.rows l.tail)
