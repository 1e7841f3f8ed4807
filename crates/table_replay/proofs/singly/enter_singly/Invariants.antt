-- The loop's invariant: the samples so far are entered (`Singly`), and `at` is the place of the next one's index.
use mathlib.Core.Path.{◌≡◌}
use Prim.Native.Nat.{◌+◌, ◌-◌, ◌*◌, ◌≤◌}
use Rattle.table_patterns.specs.Place.{pattern_in}
use Rattle.table_replay.specs.Within.{Singly}
use Rattle.table_replay.proofs.singly.enter_singly.Given as goal

abbrev pub invariant-loop-sample : goal.invariant-loop-sample
invariant-loop-sample l =
    (l.initial.sample ≤ l.sample) × (l.at ≡ l.pattern.indices + l.pattern.width * (l.turn + (l.sample - l.initial.sample)))
    × Singly (pattern_in l.s l.pattern) l.room (record { tail = l.initial.tail; sample = l.initial.sample; mark = l.mark }) (record { tail = l.tail; sample = l.sample; mark = l.mark })
