use mathlib.Core.Path.{refl}
use Rattle.table_csgp_head.proofs.walk.pattern_at.Goals as goal

pub returns : goal.returns
returns c = let f = c.requires.0 in rw (c.pair_at-pair.ensures, f.index_bits, f.marked) refl
