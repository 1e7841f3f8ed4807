-- The invariant: what is still to be copied, from the run as it is, makes what all of the copies make of the run as it was.
use mathlib.Core.Path.{◌≡◌}
use Prim.Native.Nat.{◌+◌, ◌-◌}
use Rattle.table_replay.specs.Records.{copied}
use Rattle.table_replay.proofs.records.copy_rows.Given as goal

abbrev pub invariant-loop-j : goal.invariant-loop-j
invariant-loop-j l = copied (l.end - l.j) (l.from + (l.j - l.to) - 1) (l.j - 1) l.rows ≡ copied (l.end - l.to) (l.from - 1) (l.to - 1) l.initial.rows
