-- Flag bit 7 by its value.
use borrow.Author.Tests.{eq-eqb, ne_eqb}
use Rattle.table_csgp_head.proofs.head.has_marks.Goals as goal

pub returns-in-1 : goal.returns-in-1
returns-in-1 c = simp (eq-eqb _ _ c.in-1.is)

pub returns-in_default : goal.returns-in_default
returns-in_default c = simp (ne_eqb _ _ c.in_default.in_default-own.rest.1)
