-- The loop's invariant: the walk stands behind k entries, and these are in front of the run.
use mathlib.Core.Path.{◌≡◌}
use Prim.Native.Nat.{◌+◌}
use Rattle.base_fields.specs.Answer.{given}
use Rattle.group_sgpd.specs.Sgpd.{entry_count_place}
use Rattle.group_sgpd.specs.Head.{after}
use Rattle.group_sgpd.proofs.Placed.{placed}
use Rattle.group_sgpd.proofs.places.put_places.Given as goal

abbrev pub invariant-loop-k : goal.invariant-loop-k
invariant-loop-k l =
    (after l.k l.s (entry_count_place l.s + 4) ≡ given l.at) × (l.run ≡ placed l.s l.initial.run l.k)
