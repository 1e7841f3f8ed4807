-- Eight bytes at the argument's place; the sums fit.
use Prim.Native.Nat.{◌+◌, ◌*◌}
use native.Mathlib.Omega.{arith}
use lib.ListN.{length, get_or}
use borrow.Author.Tests.{le-leb, lt-leb, lt-ltb, le-ltb}
use Rattle.test_vector_lines.specs.Lines.{argument_of}
use Rattle.test_vector_lines.proofs.argument.Goals as goal

pub returns-then-byte-k : goal.returns-then-byte-k
unfolding argument_of
returns-then-byte-k c = let a = c.args in simp (le-leb (get_or a.s.now 1 0) a.k (omega arith))

pub returns-then-s-at : goal.returns-then-s-at
unfolding argument_of
returns-then-s-at c =
    let a = c.args in
    simp (lt-leb (get_or a.s.now 1 0) a.k (omega arith), lt-ltb (length a.s.now) (2 + 8 * a.k + 8) (omega arith))

pub returns : goal.returns
unfolding argument_of
returns c =
    let a = c.args in
    simp (lt-leb (get_or a.s.now 1 0) a.k (omega arith), le-ltb (length a.s.now) (2 + 8 * a.k + 8) (omega arith)) c.read_u64.ensures.0
