-- The loop's invariant: the digits passed wrote the first n bytes, and all are digits exactly when those not passed are.
use Prim.Native.Nat.{◌+◌, ◌*◌, ◌≤◌}
use lib.ListN.{length, take}
use lib.Seq.{slice}
use mathlib.Core.List.{◌++◌}
use mathlib.Core.Path.{◌≡◌}
use Rattle.test_vector_lines.specs.Lines.{written, are_digits}
use Rattle.test_vector_lines.proofs.text.decode.Given as goal

abbrev pub invariant-loop-n : goal.invariant-loop-n
invariant-loop-n l =
    let left = slice (l.from + 2 * l.n) l.to l.text in
    (l.n ≤ length l.bytes) × (are_digits (slice l.from l.to l.text) ≡ are_digits left) × (written (slice l.from l.to l.text) ≡ take l.n l.bytes ++ written left)
