-- By what the search has found.
use mathlib.Core.Path.{refl}
use Rattle.atom_path.proofs.level.found_in.Goals as goal

pub returns-in-Ahead : goal.returns-in-Ahead
returns-in-Ahead c = rw c.in-Ahead.is refl

pub returns-in-Found : goal.returns-in-Found
returns-in-Found c = rw c.in-Found.is c.present_body.ensures
