-- The preview decides; where it gives a row count the rows are written, else nothing is touched.
use borrow.Author.Rules.{rules}
use Rattle.base_fields.proofs.Handed.{handed}
use Rattle.table_repaint.proofs.Answer.{preview_accepted, gives-refused}
use Rattle.table_repaint.proofs.repaint.Goals as goal

pub write_repainted-requires : goal.write_repainted-requires
write_repainted-requires c = preview_accepted _ _ _ _ _ c.in_ok-count.ensures (λ k. search rules)

pub returns-in_err-count : goal.returns-in_err-count
returns-in_err-count c = rw (handed c.from_residual.ensures) (gives-refused _ _ _ _ _ c.in_err-count.ensures)

pub returns : goal.returns
returns c = record { answer = c.in_ok-count.ensures; run = c.write_repainted.ensures }
