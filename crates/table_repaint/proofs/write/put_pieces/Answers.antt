-- Each run is put in its turn: what was ready for three runs is ready for the next two, and then for the last.
use mathlib.Core.Path.{ap, ◌∙◌}
use Prim.Native.Nat.{◌-◌}
use Rattle.table_repaint.specs.Cut.{run}
use Rattle.table_repaint.specs.Pass.{Work, put_run, put_runs}
use Rattle.table_repaint.proofs.Loop.{ready-fits, ready-next}
use Rattle.table_repaint.proofs.write.put_pieces.Goals as goal

pub put_run-first-requires : goal.put_run-first-requires
put_run-first-requires c = ready-fits c.requires.2

pub put_run-second-requires : goal.put_run-second-requires
put_run-second-requires c =
    ready-fits (ready-next c.requires.2 c.put_run-first.ensures)

pub put_run-requires : goal.put_run-requires
put_run-requires c =
    ready-fits (ready-next (ready-next c.requires.2 c.put_run-first.ensures) c.put_run-second.ensures)

pub returns : goal.returns
unfolding put_runs
returns c =
    let a = c.args in
    c.put_run.ensures
    ∙ ap (λ (w : Work). put_run w (run (a.count - a.to) a.index))
    (c.put_run-second.ensures ∙ ap (λ (w : Work). put_run w (run (a.to - a.from) a.paint)) c.put_run-first.ensures)
