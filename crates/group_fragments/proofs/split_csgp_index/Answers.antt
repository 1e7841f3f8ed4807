use mathlib.Core.Path.{refl}
use Rattle.group_fragments.proofs.split_csgp_index.Goals as goal

pub returns : goal.returns
returns c = (refl, refl)
