-- The walk goes on behind each atom, and ends where places do.
use Prim.Native.Nat.{◌-◌, ◌≤◌}
use mathlib.Core.Path.{◌≡◌}
use lib.ListN.{length}
use Rattle.atom_tree.specs.Atom.{last_place}
use Rattle.cue_film.proofs.top.find_moov.Given as goal

abbrev pub invariant-loop-at : goal.invariant-loop-at
invariant-loop-at l = (length l.window ≡ 16) × (l.at ≤ last_place)

abbrev pub decreases-loop-at : goal.decreases-loop-at
decreases-loop-at l = last_place - l.at
