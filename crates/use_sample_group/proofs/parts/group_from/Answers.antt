-- By the case of the group; an entry's place is moved.
use mathlib.Core.Path.{refl}
use native.Mathlib.Omega.{arith}
use Rattle.use_sample_group.proofs.parts.group_from.Goals as goal

pub overflow_add-moved : goal.overflow_add-moved
overflow_add-moved c = let fits = rw c.in-Entry.is at c.requires in omega (arith, fits)

pub returns-in-Outside : goal.returns-in-Outside
returns-in-Outside c = rw c.in-Outside.is refl

pub returns-in-Missing : goal.returns-in-Missing
returns-in-Missing c = rw c.in-Missing.is refl

pub returns-in-Entry : goal.returns-in-Entry
returns-in-Entry c = rw c.in-Entry.is refl
