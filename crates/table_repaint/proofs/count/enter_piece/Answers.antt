-- An empty run is passed over; any other is entered as the replay enters it.
use borrow.Author.Tests.{eq-eqb, ne_eqb}
use Rattle.table_repaint.specs.Cut.{tail_run}
use Rattle.table_repaint.proofs.count.enter_piece.Goals as goal

pub returns-then-count-eq0 : goal.returns-then-count-eq0
unfolding tail_run
returns-then-count-eq0 c = rw (eq-eqb _ 0 c.if-count-eq0.true)

pub returns : goal.returns
unfolding tail_run
returns c = rw (ne_eqb _ 0 c.if-count-eq0.false) c.enter_run.ensures
