-- Every header that is read is sound.
use mathlib.Core.Path.{sym}
use Rattle.atom_tree.proofs.Headers.{header-sound}
use Rattle.atom_path.proofs.level.top_atom.Goals as goal

pub top_end-next-requires : goal.top_end-next-requires
top_end-next-requires c = header-sound _ _ (sym (rw c.in-Some.is at c.in_ok-head.ensures))
