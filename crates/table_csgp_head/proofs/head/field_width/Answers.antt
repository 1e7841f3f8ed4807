use native.Mathlib.Omega.{arith}
use borrow.Author.Tests.{ne_eqb}
use Rattle.table_csgp_head.specs.Csgp.{width_of}
use Rattle.table_csgp_head.proofs.head.field_width.Goals as goal

pub returns-in-0 : goal.returns-in-0
unfolding width_of
returns-in-0 c = (simp c.in-0.is, omega arith, omega arith)

pub returns-in-1 : goal.returns-in-1
unfolding width_of
returns-in-1 c = (simp c.in-1.is, omega arith, omega arith)

pub returns-in-2 : goal.returns-in-2
unfolding width_of
returns-in-2 c = (simp c.in-2.is, omega arith, omega arith)

pub returns-in_default : goal.returns-in_default
unfolding width_of
returns-in_default c = (simp (ne_eqb _ _ c.in_default.in_default-own.rest.0.0.1, ne_eqb _ _ c.in_default.in_default-own.rest.0.1, ne_eqb _ _ c.in_default.in_default-own.rest.1), omega arith, omega arith)
