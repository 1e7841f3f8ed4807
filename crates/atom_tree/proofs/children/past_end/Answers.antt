use mathlib.Core.Path.{refl}
use Rattle.atom_tree.proofs.children.past_end.Goals as goal

pub returns-in-Some : goal.returns-in-Some
returns-in-Some c = rw c.in-Some.is refl
