-- The loop's invariant: what is seen of the samples before those of the patterns ahead.
use Rattle.table_runs.specs.Ahead.{WholeIn}
use Rattle.use_profile.specs.Survey.{told_seen}
use Rattle.use_profile.proofs.Tables.{Entered}
use Rattle.use_profile.proofs.survey.survey_table.Given as goal

abbrev pub invariant-loop-pattern : goal.invariant-loop-pattern
invariant-loop-pattern l = WholeIn l.table_s l.table l.here × Entered l.table_s l.table l.s l.here (told_seen l.seen)

abbrev pub decreases-loop-pattern : goal.decreases-loop-pattern
decreases-loop-pattern l = l.here.left
