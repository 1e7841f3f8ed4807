-- The loop's invariant: the line ends where it ends from here on.
use Prim.Native.Nat.{◌+◌}
use lib.ListN.{drop}
use mathlib.Core.Path.{◌≡◌}
use Rattle.test_vector_lines.specs.Lines.{line_length}
use Rattle.test_vector_lines.proofs.text.line_end.Given as goal

abbrev pub invariant-loop-at : goal.invariant-loop-at
invariant-loop-at l = l.from + line_length (drop l.from l.text) ≡ l.at + line_length (drop l.at l.text)
