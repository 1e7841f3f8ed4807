-- By the code.
use native.Mathlib.Omega.{arith}
use borrow.Author.Tests.{ne_eqb}
use Rattle.table_csgp_head.specs.Csgp.{width_of}
use Rattle.table_writers.proofs.tally.halves_for.Goals as goal

pub returns-in-0 : goal.returns-in-0
unfolding width_of
returns-in-0 c = (rw (← c.code_for-code.ensures, c.in-0.is), omega arith)

pub returns-in-1 : goal.returns-in-1
unfolding width_of
returns-in-1 c = (rw (← c.code_for-code.ensures, c.in-1.is), omega arith)

pub returns-in-2 : goal.returns-in-2
unfolding width_of
returns-in-2 c = (rw (← c.code_for-code.ensures, c.in-2.is), omega arith)

pub returns-in_default : goal.returns-in_default
unfolding width_of
returns-in_default c =
    let other = c.in_default.in_default-own.rest in
    (rw (← c.code_for-code.ensures) (simp (ne_eqb _ _ other.0.0.1, ne_eqb _ _ other.0.1, ne_eqb _ _ other.1)), omega arith)
