-- By the level.
use Rattle.atom_path.proofs.level.next_atom.Goals as goal

pub returns-then-top : goal.returns-then-top
returns-then-top c = rw c.if-top.true c.top_atom.ensures

pub returns-else-top : goal.returns-else-top
returns-else-top c = rw c.if-top.false c.next_child.ensures
