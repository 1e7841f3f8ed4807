-- No member of index 0; else all samples.
use mathlib.Core.Path.{refl}
use borrow.Author.Tests.{ne_eqb}
use Rattle.use_fragment_queue.proofs.row_count.member_samples.Goals as goal

pub returns-then-index-eq0 : goal.returns-then-index-eq0
returns-then-index-eq0 c = rw c.if-index-eq0.true refl

pub returns-else-index-eq0 : goal.returns-else-index-eq0
returns-else-index-eq0 c = rw (ne_eqb _ _ c.if-index-eq0.false) refl
