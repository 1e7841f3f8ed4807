use borrow.Author.Tests.{eq-eqb, ne_eqb}
use borrow.Author.Rules.{rules}
use Rattle.group_entries.proofs.rash.rash_points_end.Goals as goal

pub returns-then-count-eq1 : goal.returns-then-count-eq1
returns-then-count-eq1 c = (simp (eq-eqb _ _ c.if-count-eq1.true), search rules)

pub returns-else-count-eq1 : goal.returns-else-count-eq1
returns-else-count-eq1 c = (simp (ne_eqb _ _ c.if-count-eq1.false), search rules)
