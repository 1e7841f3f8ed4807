-- The loop's invariant: the samples ahead are those ahead of the cursor that was given.
use mathlib.Core.Path.{◌≡◌}
use Rattle.table_runs.specs.Ahead.{WholeIn}
use Rattle.table_runs.specs.Runs.{samples_ahead}
use Rattle.table_runs.proofs.by_run.next_run.Given as goal

abbrev pub invariant-loop-pattern : goal.invariant-loop-pattern
invariant-loop-pattern l = WholeIn l.s l.table l.here × (samples_ahead l.s l.table (record { here = l.initial.here; sample = l.initial.k }) ≡ samples_ahead l.s l.table (record { here = l.here; sample = l.k }))

abbrev pub decreases-loop-pattern : goal.decreases-loop-pattern
decreases-loop-pattern l = l.here.left
