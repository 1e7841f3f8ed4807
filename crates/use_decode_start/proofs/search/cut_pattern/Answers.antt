-- The count is the lesser.
use mathlib.Core.Path.{refl}
use Rattle.use_decode_start.proofs.search.cut_pattern.Goals as goal

pub returns : goal.returns
returns c = rw c.min.ensures refl
