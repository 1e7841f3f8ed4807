-- After k turns the first k points stand in front of the run (the laws of Points.antt).
use mathlib.Core.Path.{◌≡◌}
use Rattle.group_entries.proofs.Points.{points_in}
use Rattle.group_entries.proofs.rash.put_points.Given as goal

abbrev pub invariant-loop-k : goal.invariant-loop-k
invariant-loop-k l = l.run ≡ points_in l.payload l.initial.run l.k
