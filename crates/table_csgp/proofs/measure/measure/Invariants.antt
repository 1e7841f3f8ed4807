-- Between the patterns the rows so far and the samples ahead decide the rows of the payload (`Replaying`), within a pattern those of the
-- pattern that are left (`Within`). `done` joins the two ways out of the replay.
use Rattle.std.specs.Prelude.{Ok}
use mathlib.Core.Path.{◌≡◌}
use Prim.Native.Nat.{◌-◌}
use Rattle.table_patterns.specs.Place.{pattern_in}
use Rattle.table_replay.specs.Within.{Within}
use Rattle.table_replay.proofs.Within.{Replaying}
use Rattle.table_csgp_head.specs.Head.{Whole}
use Rattle.table_csgp.specs.Rows.{rows_for}
use Rattle.table_csgp.proofs.Ahead.{coming, behind}
use Rattle.table_csgp.proofs.measure.measure.Given as goal

abbrev pub invariant-loop-state : goal.invariant-loop-state
invariant-loop-state l =
    Within (rows_for l.s l.room) l.room (pattern_in l.s l.pattern) (behind l.s l.head l.here l.pattern) l.state × (l.told ≡ Ok tt)

abbrev pub decreases-loop-state : goal.decreases-loop-state
decreases-loop-state l = l.pattern.count - l.state.sample

abbrev pub invariant-replay : goal.invariant-replay
invariant-replay l = Replaying (rows_for l.s l.room) l.room (coming l.s l.here) l.tail × Whole l.s l.here × (l.told ≡ Ok tt)

abbrev pub decreases-replay : goal.decreases-replay
decreases-replay l = l.here.left
