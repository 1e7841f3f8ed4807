-- As `enter_singly`, with the rows so far in front of the run (`SinglyWritten`).
use mathlib.Core.Path.{◌≡◌}
use Prim.Native.Nat.{◌+◌, ◌-◌, ◌*◌, ◌≤◌}
use lib.ListN.{length}
use Rattle.table_patterns.specs.Place.{pattern_in}
use Rattle.table_replay.specs.Within.{SinglyWritten}
use Rattle.table_replay.proofs.singly.write_singly.Given as goal

abbrev pub invariant-loop-sample : goal.invariant-loop-sample
invariant-loop-sample l =
    (l.initial.sample ≤ l.sample) × (l.at ≡ l.pattern.indices + l.pattern.width * (l.turn + (l.sample - l.initial.sample))) × (l.tail.rows ≤ l.room) × (length l.rows ≡ length l.initial.rows)
    × SinglyWritten (pattern_in l.s l.pattern) l.room (record { tail = l.initial.tail; sample = l.initial.sample; mark = l.mark }) (record { tail = l.tail; sample = l.sample; mark = l.mark }) l.initial.rows l.rows
