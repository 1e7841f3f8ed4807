use borrow.Author.Tests.{lt-ltb, le-ltb}
use mathlib.Core.Path.{refl}
use Rattle.atom_tree.proofs.children.child_inside.Goals as goal

pub returns-then-limit-next : goal.returns-then-limit-next
returns-then-limit-next c = rw c.in-Some.is (simp (lt-ltb _ _ c.if-limit-next.true))

pub returns-else-limit-next : goal.returns-else-limit-next
returns-else-limit-next c = rw c.in-Some.is (simp (le-ltb _ _ c.if-limit-next.false))

pub returns-in-None : goal.returns-in-None
returns-in-None c = rw c.in-None.is refl
