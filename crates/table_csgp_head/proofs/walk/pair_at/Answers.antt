use mathlib.Core.Path.{refl}
use native.Mathlib.Omega.{arith}
use Rattle.table_csgp_head.proofs.Widths.{widths}
use Rattle.table_csgp_head.proofs.walk.pair_at.Goals as goal

pub read_bits-requires : goal.read_bits-requires
read_bits-requires c = omega (arith, widths c.args.s.now)

pub returns : goal.returns
returns c =
    let f = c.requires.0 in
    rw (c.length_at.ensures, c.read_bits.ensures.0, f.length_bits, f.count_bits) refl
