-- The invariant: the rows still to come make of the tail what all of them make of none.
use mathlib.Core.Path.{◌≡◌}
use mathlib.Core.List.{[]}
use Prim.Native.Nat.{◌≤◌}
use Rattle.table_rows.specs.Row.{records_in}
use Rattle.table_replay.specs.Enter.{tail_of}
use Rattle.table_repaint.proofs.Counting.{count_from}
use Rattle.table_repaint.proofs.count.count_repainted.Given as goal

abbrev pub invariant-loop-j : goal.invariant-loop-j
invariant-loop-j l =
    (l.from ≤ l.to)
    × (count_from l.rows l.stated l.room l.j l.from l.to l.paint l.tail ≡ count_from l.rows l.stated (records_in l.rows) 0 l.a l.b l.paint (tail_of []))
