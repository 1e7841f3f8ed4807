-- By the distance.
use mathlib.Core.Path.{refl, ◌∙◌}
use native.Mathlib.Numerals.{add-one}
use Rattle.table_views.specs.Search.{best_at}
use Rattle.use_decode_start.proofs.Bests.{best-ahead, best-behind}
use Rattle.use_decode_start.proofs.positions.best_at.Goals as goal

pub returns-in-Nothing : goal.returns-in-Nothing
unfolding best_at
returns-in-Nothing c = rw c.in-Nothing.is refl

pub returns-in-Ahead : goal.returns-in-Ahead
returns-in-Ahead c =
    let a = c.args in
    rw c.in-Ahead.is (rw (c.saturating_sub-limit.ensures, add-one) at c.last_below.ensures ∙ best-ahead a.wanted a.start a.count a.length a.position _)

pub returns-in-Behind : goal.returns-in-Behind
returns-in-Behind c =
    let a = c.args in
    rw c.in-Behind.is
    (rw (c.last_below-in-Behind.ensures, add-one) at c.before-in-Behind.ensures ∙ best-behind a.wanted a.start a.count a.length a.position _)
