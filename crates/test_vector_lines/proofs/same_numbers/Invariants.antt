-- The loop's invariant: all numbers agree exactly when those not compared yet do.
use Prim.Native.Nat.{◌*◌}
use lib.ListN.{drop}
use mathlib.Core.Path.{◌≡◌}
use Rattle.test_vector_lines.specs.Lines.{numbers_from}
use Rattle.test_vector_lines.proofs.same_numbers.Given as goal

abbrev pub invariant-loop-k : goal.invariant-loop-k
invariant-loop-k l = numbers_from l.seen 0 l.out ≡ numbers_from l.seen (8 * l.k) (drop l.k l.out)
