-- The second front, then whether it is as long as the first: laws of Pairs.antt.
use mathlib.Core.Path.{ap, sym, ◌∙◌}
use Rattle.base_fields.specs.Refusal.{told_value}
use Rattle.group_entries.proofs.Front.{handed}
use Rattle.group_alike.proofs.Pairs.{second-refused, are-different, decides}
use Rattle.group_alike.proofs.second_left.Goals as goal

pub returns-in_err-n : goal.returns-in_err-n
returns-in_err-n c =
    let known = c.requires in
    rw (handed c.from_residual.ensures) (second-refused _ _ _ known.2 (ap told_value (sym c.in_err-n.was) ∙ known.3))

pub returns-then-m-n : goal.returns-then-m-n
returns-then-m-n c =
    let known = c.requires in
    decides _ _ _ known.2 (ap told_value (sym c.in_ok-n.was) ∙ known.3) known.0 known.1 c.if-m-n.true known.4

pub returns-else-m-n : goal.returns-else-m-n
returns-else-m-n c =
    let known = c.requires in
    are-different _ _ _ known.2 (ap told_value (sym c.in_ok-n.was) ∙ known.3) known.0 known.1 (λ e o. c.if-m-n.false e)
