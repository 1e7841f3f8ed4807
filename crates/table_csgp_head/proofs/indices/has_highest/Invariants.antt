-- The loop's invariant: none of the fields before i has its highest bit, which stands in the byte at `at` of field i.
use mathlib.Core.Path.{◌≡◌}
use Prim.Native.Nat.{◌+◌, ◌*◌, ◌/◌, ◌≤◌}
use mathlib.Core.Bool.{false}
use Rattle.table_csgp_head.specs.Indices.{GivesHighest}
use Rattle.table_csgp_head.proofs.indices.has_highest.Given as goal

abbrev pub invariant-loop-i : goal.invariant-loop-i
invariant-loop-i l = (l.at ≡ l.place / 8 + 4 * l.i) × (l.i ≤ l.n) × GivesHighest l.s l.place l.i false
