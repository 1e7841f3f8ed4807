use native.Mathlib.Omega.{arith}
use Rattle.test_vector_lines.proofs.Laws.{line_ends, line_goes, line_none}
use Rattle.test_vector_lines.proofs.text.line_end.Goals as goal

pub returns-then-text-at-eq10 : goal.returns-then-text-at-eq10
returns-then-text-at-eq10 c =
    let t = c.args.text.now in
    let e = line_ends t c.loop-at.at c.loop-at-test.true c.if-text-at-eq10.true in
    (omega arith, omega arith, omega arith)

pub loop-at-preserved : goal.loop-at-preserved
loop-at-preserved c =
    let t = c.args.text.now in
    let e = line_goes t c.loop-at.at c.loop-at-test.true c.if-text-at-eq10.false in
    omega arith

pub returns : goal.returns
returns c =
    let t = c.args.text.now in
    let e = line_none t c.loop-at.at c.loop-at-test.false in
    (omega arith, omega arith, omega arith)
