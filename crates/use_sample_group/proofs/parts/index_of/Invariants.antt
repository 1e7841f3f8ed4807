-- The loop's invariant: sample k of the patterns ahead has the index of the sample that was asked for.
use mathlib.Core.Path.{◌≡◌}
use Rattle.table_rows.specs.Pattern.{index_of}
use Rattle.table_runs.specs.Ahead.{all_in, ahead_in, WholeIn}
use Rattle.use_sample_group.proofs.parts.index_of.Given as goal

abbrev pub invariant-loop-pattern : goal.invariant-loop-pattern
invariant-loop-pattern l =
    WholeIn l.s l.table l.here × (index_of (ahead_in l.s l.table (all_in l.table)) l.sample ≡ index_of (ahead_in l.s l.table l.here) l.k)

abbrev pub decreases-loop-pattern : goal.decreases-loop-pattern
decreases-loop-pattern l = l.here.left
