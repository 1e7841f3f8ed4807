use mathlib.Core.Path.{refl, sym, ◌∙◌}
use native.Mathlib.Omega.{arith}
use Rattle.base_fields.proofs.Handed.{handed}
use Rattle.table_repaint.proofs.Counting.{count-end, count-on, count-refused}
use Rattle.table_repaint.proofs.count.count_repainted.Goals as goal

pub loop-j-init : goal.loop-j-init
loop-j-init c = (c.requires.1, rw c.record_count-room.ensures refl)

pub count_at-count-requires : goal.count_at-count-requires
count_at-count-requires c = omega arith

pub description_at-index-requires : goal.description_at-index-requires
description_at-index-requires c = omega arith

pub enter_pieces-requires : goal.enter_pieces-requires
enter_pieces-requires c = (omega arith, omega arith)

-- the refusal of a piece is the answer
pub returns-in_err-tail : goal.returns-in_err-tail
returns-in_err-tail c =
    let at = c.loop-j in
    rw (handed c.from_residual.ensures)
    (sym (count-refused _ _ _ _ _ _ _ _ c.requires.0 c.loop-j-test.true c.count_at-count.ensures
    c.description_at-index.ensures c.least-x.ensures c.least-y.ensures c.in_err-tail.ensures)
    ∙ at.invariant.1)

pub overflow_cast-from : goal.overflow_cast-from
overflow_cast-from c = omega arith

pub overflow_sub-from : goal.overflow_sub-from
overflow_sub-from c = omega arith

pub overflow_cast-to : goal.overflow_cast-to
overflow_cast-to c = omega arith

pub overflow_sub-to : goal.overflow_sub-to
overflow_sub-to c = omega arith

pub loop-j-preserved : goal.loop-j-preserved
loop-j-preserved c =
    let at = c.loop-j in (
      omega arith,
      sym (count-on _ _ _ _ _ _ _ _ c.requires.0 c.loop-j-test.true c.count_at-count.ensures c.description_at-index.ensures
          c.least-x.ensures c.least-y.ensures c.in_ok-tail.ensures)
          ∙ at.invariant.1,
    )

pub returns : goal.returns
returns c = let at = c.loop-j in sym (count-end _ _ _ _ _ _ _ _ c.requires.0 c.loop-j-test.false) ∙ at.invariant.1
