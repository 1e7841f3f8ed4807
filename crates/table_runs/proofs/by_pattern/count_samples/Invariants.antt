-- The loop's invariant: the samples counted and those ahead are all; each pattern passed has at most the largest count.
use mathlib.Core.Path.{◌≡◌}
use Prim.Native.Nat.{◌+◌, ◌*◌, ◌≤◌}
use Rattle.table_rows.specs.Pattern.{covered_by}
use Rattle.table_runs.specs.Ahead.{all_in, ahead_in, WholeIn}
use Rattle.table_runs.proofs.by_pattern.count_samples.Given as goal

abbrev pub invariant-loop-pattern : goal.invariant-loop-pattern
invariant-loop-pattern l =
    WholeIn l.s l.table l.here × (l.sum + covered_by (ahead_in l.s l.table l.here) ≡ covered_by (ahead_in l.s l.table (all_in l.table)))
    × (l.sum + l.here.left * 4294967295 ≤ (all_in l.table).left * 4294967295) × ((all_in l.table).left ≤ 4294967295)

abbrev pub decreases-loop-pattern : goal.decreases-loop-pattern
decreases-loop-pattern l = l.here.left
