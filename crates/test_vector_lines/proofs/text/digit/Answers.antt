-- By the ranges of a digit's byte.
use native.Mathlib.Omega.{arith}
use borrow.Author.Tests.{le-leb, lt-leb}
use Rattle.test_vector_lines.specs.Lines.{digit_of}
use Rattle.test_vector_lines.proofs.text.digit.Goals as goal

pub returns-then-b-lt48 : goal.returns-then-b-lt48
unfolding digit_of
returns-then-b-lt48 c = let b = c.args.b in (simp (lt-leb 48 b (omega arith), lt-leb 97 b (omega arith)), omega arith)

pub returns-then-b-le57 : goal.returns-then-b-le57
unfolding digit_of
returns-then-b-le57 c = let b = c.args.b in (simp (le-leb 48 b (omega arith), le-leb b 57 (omega arith)), omega arith)

pub returns-then-b-lt97 : goal.returns-then-b-lt97
unfolding digit_of
returns-then-b-lt97 c = let b = c.args.b in (simp (lt-leb b 57 (omega arith), lt-leb 97 b (omega arith), le-leb 48 b (omega arith)), omega arith)

pub returns-then-b-le102 : goal.returns-then-b-le102
unfolding digit_of
returns-then-b-le102 c =
    let b = c.args.b in
    (simp (lt-leb b 57 (omega arith), le-leb 48 b (omega arith), le-leb 97 b (omega arith), le-leb b 102 (omega arith)) (omega arith), omega arith)

pub returns : goal.returns
unfolding digit_of
returns c =
    let b = c.args.b in
    (simp (lt-leb b 57 (omega arith), le-leb 48 b (omega arith), le-leb 97 b (omega arith), lt-leb b 102 (omega arith)), omega arith)
