-- As in `measure`, with the rows so far in front of the run (`Filling`, `FillingWithin`). Within a pattern this is said of whatever the run
-- was before its first sample was entered. Nothing is refused, since the rows are given.
use mathlib.Core.Path.{◌≡◌}
use Prim.Native.Nat.{ℕ, ◌-◌}
use mathlib.Core.List.{List}
use lib.ListN.{length}
use Rattle.table_patterns.specs.Place.{pattern_in}
use Rattle.table_replay.specs.Within.{FillingWithin}
use Rattle.table_replay.proofs.Within.{Filling}
use Rattle.table_csgp_head.specs.Head.{Whole}
use Rattle.table_csgp.specs.Rows.{rows_for}
use Rattle.table_csgp.proofs.Ahead.{coming, behind}
use Rattle.table_csgp.proofs.fill.fill.Given as goal

abbrev pub invariant-loop-state : goal.invariant-loop-state
invariant-loop-state l =
    let Filled = FillingWithin (rows_for l.s l.room) l.room (pattern_in l.s l.pattern) (behind l.s l.head l.here l.pattern) in
    ((e : List ℕ) → Filled l.initial.state e l.initial.rows → Filled l.state e l.rows) × (length l.rows ≡ length l.initial.rows)

abbrev pub decreases-loop-state : goal.decreases-loop-state
decreases-loop-state l = l.pattern.count - l.state.sample

abbrev pub invariant-loop-here : goal.invariant-loop-here
invariant-loop-here l =
    Filling (rows_for l.s l.room) l.room (coming l.s l.here) l.tail l.initial.rows l.rows × Whole l.s l.here × (length l.rows ≡ length l.initial.rows)

abbrev pub decreases-loop-here : goal.decreases-loop-here
decreases-loop-here l = l.here.left
