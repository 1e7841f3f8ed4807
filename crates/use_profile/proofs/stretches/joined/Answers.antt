-- By its parts.
use Rattle.use_profile.specs.Survey.{told_gaps}
use Rattle.use_profile.proofs.Steps.{join_more}
use Rattle.use_profile.proofs.stretches.joined.Goals as goal

pub returns : goal.returns
returns c =
    let a = c.args in
    rw (c.max-2.ensures, c.max.ensures, c.grown-2.ensures, c.grown.ensures, c.both.ensures)
    (join_more (told_gaps a.a) (told_gaps a.b))
