-- The loop's invariant: what the search finds from here on is what it finds from the level's first atom on. The measure is what is left of the level.
use mathlib.Core.Path.{◌≡◌}
use Prim.Native.Nat.{◌-◌}
use Rattle.base_fields.specs.Refusal.{number}
use Rattle.atom_path.proofs.Bodies.{searched}
use Rattle.atom_path.proofs.level.find_in_level.Given as goal

abbrev pub invariant-loop-atom : goal.invariant-loop-atom
invariant-loop-atom l =
    searched l.top l.s l.end l.fourcc (number l.level.missing) l.initial.at l.initial.sought ≡ searched l.top l.s l.end l.fourcc (number l.level.missing) l.at l.sought

abbrev pub decreases-loop-atom : goal.decreases-loop-atom
decreases-loop-atom l = l.end - l.at
