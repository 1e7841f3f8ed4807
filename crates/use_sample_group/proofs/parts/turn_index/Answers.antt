-- The position in the turn is one of the pattern's, and its index that of the sample.
use mathlib.Core.Path.{◌∙◌}
use native.Mathlib.Nat.{mod-lt}
use native.Mathlib.Omega.{arith}
use Rattle.use_sample_group.proofs.Turned.{turn-index}
use Rattle.use_sample_group.proofs.parts.turn_index.Goals as goal

pub nonzero_rem-k : goal.nonzero_rem-k
nonzero_rem-k c = omega (arith, c.requires.some)

pub index_at-requires : goal.index_at-requires
index_at-requires c = let pre = c.requires in (pre, mod-lt _ pre.some)

pub returns : goal.returns
returns c = let a = c.args in c.index_at.ensures ∙ turn-index a.s.now a.pattern a.k
