-- By the size and the parent's end; the sum fits since the header is sound.
use mathlib.Core.Path.{ap, ◌∙◌}
use native.Mathlib.Omega.{arith}
use Rattle.atom_tree.specs.Told.{size_of, parent_end, header_of}
use Rattle.atom_tree.proofs.Cases.{child-sized, child_open}
use Rattle.atom_tree.proofs.children.child_of.Goals as goal

pub overflow_add-at : goal.overflow_add-at
overflow_add-at c = omega (arith, (rw c.in-Some.is at c.requires.ends).1)

pub returns-in-Some : goal.returns-in-Some
returns-in-Some c = let a = c.args in
    c.child_inside.ensures ∙ child-sized a.at (header_of a.h) (size_of a.h.total_size) (parent_end a.end) c.in-Some.n (ap size_of c.in-Some.is)

pub returns-in-Some-end : goal.returns-in-Some-end
returns-in-Some-end c = let a = c.args in
    child_open a.at (header_of a.h) (size_of a.h.total_size) (parent_end a.end) c.in-Some-end.limit (ap size_of c.in-None.is) (ap parent_end c.in-Some-end.is)
