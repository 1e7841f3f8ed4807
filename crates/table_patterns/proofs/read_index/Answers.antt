-- The bits, and the index that they hold.
use mathlib.Core.Path.{◌∙◌}
use Rattle.table_patterns.proofs.read_index.Goals as goal

pub returns : goal.returns
returns c = let v = c.index_value.ensures in (v.0 ∙ rw c.late_bits.ensures.0, v.1)
