-- `half_bytes::put_number` meets its contract. The invariant: the half bytes still to come make of the output what all of them make of the first.
use mathlib.Core.Path.{◌≡◌}
use Prim.Native.Nat.{◌+◌, ◌-◌, ◌/◌, ◌%◌}
use lib.ListN.{get_or}
use Rattle.table_writing.specs.Output.{number_put}
use Rattle.table_half_bytes.proofs.put_number.Given as goal

abbrev pub invariant-loop-i : goal.invariant-loop-i
invariant-loop-i l =
    let at = l.h + l.m - l.i in
    (number_put l.i at l.v l.out ≡ number_put l.m l.h l.v l.initial.out) × (at % 2 ≡ 1 → get_or l.out (at / 2) 0 % 16 ≡ 0)
