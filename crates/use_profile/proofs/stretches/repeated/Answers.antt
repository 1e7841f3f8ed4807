-- By how many there are, and whether all samples are of these kinds.
use mathlib.Core.Path.{sym, ◌∙◌}
use Rattle.use_profile.proofs.Steps.{times_zero, times-one, times-whole, times-parted}
use Rattle.use_profile.proofs.stretches.repeated.Goals as goal

pub returns-then-m-eq0 : goal.returns-then-m-eq0
returns-then-m-eq0 c = c.no_gaps.ensures ∙ sym (times_zero _ c.if-m-eq0.true)

pub returns-then-m-eq1 : goal.returns-then-m-eq1
returns-then-m-eq1 c = sym (times-one _ c.if-m-eq1.true)

pub returns-then-g : goal.returns-then-g
returns-then-g c =
    sym (times-whole _ _ c.if-m-eq0.false c.if-m-eq1.false c.if-g.true)

pub returns : goal.returns
returns c =
    rw c.max.ensures (sym (times-parted _ _ c.if-m-eq0.false c.if-m-eq1.false c.if-g.false))
