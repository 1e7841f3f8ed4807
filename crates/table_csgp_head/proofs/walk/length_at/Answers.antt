use mathlib.Core.Path.{◌∙◌}
use native.Mathlib.Omega.{arith}
use Rattle.table_csgp_head.proofs.Widths.{widths}
use Rattle.table_csgp_head.proofs.walk.length_at.Goals as goal

pub read_bits-requires : goal.read_bits-requires
read_bits-requires c = omega (arith, widths c.args.s.now)

pub returns : goal.returns
returns c = c.read_bits.ensures.0 ∙ rw c.requires.0.length_bits
