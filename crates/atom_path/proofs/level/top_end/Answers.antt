-- By the size; the sum fits since the header is sound.
use mathlib.Core.Path.{refl}
use native.Mathlib.Omega.{arith}
use Rattle.atom_path.proofs.level.top_end.Goals as goal

pub overflow_add-result : goal.overflow_add-result
overflow_add-result c = omega (arith, (rw c.in-Some.is at c.requires.ends).1)

pub returns-in-Some : goal.returns-in-Some
returns-in-Some c = rw c.in-Some.is refl

pub returns-in-None : goal.returns-in-None
returns-in-None c = rw c.in-None.is refl
