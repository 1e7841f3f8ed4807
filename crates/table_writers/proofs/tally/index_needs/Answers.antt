-- By whether there are marks.
use mathlib.Core.Path.{refl, sym, ◌∙◌}
use Rattle.table_writers.proofs.tally.index_needs.Goals as goal

pub returns-then-has_marks : goal.returns-then-has_marks
returns-then-has_marks c = rw (sym c.has_marks.ensures ∙ c.if-has_marks.true) refl

pub returns : goal.returns
returns c = rw (sym c.has_marks.ensures ∙ c.if-has_marks.false) refl
