use native.Mathlib.Omega.{arith}
use lib.Dec.{eqb}
use Rattle.table_rows.proofs.RowAt.{rows-length}
use Rattle.use_fragment_queue.proofs.Counting.{counting-start, counting-over, counting-next, counting-end}
use Rattle.use_fragment_queue.proofs.Held.{part}
use Rattle.use_fragment_queue.proofs.row_count.count_fragment.Goals as goal

pub loop-k-init : goal.loop-k-init
loop-k-init c = (c.record_count-k-end.ensures, counting-start _)

pub returns-then-covered-n : goal.returns-then-covered-n
returns-then-covered-n c =
    let inv = c.loop-k.invariant in
    counting-over _ _ _ _ inv.1 (omega (arith, c.loop-k-test.true, inv.0, rows-length c.args.rows.now)) (rw c.count_at-n.ensures at c.if-covered-n.true)

pub overflow_add-members : goal.overflow_add-members
overflow_add-members c =
    let inv = c.loop-k.invariant in
    omega (arith, inv.1.among, inv.1.within, c.member_samples-m.ensures, part (eqb c.description_at.result 0) c.count_at-n.result, c.if-covered-n.false)

pub loop-k-preserved : goal.loop-k-preserved
loop-k-preserved c =
    let inv = c.loop-k.invariant in
    let l = c.args.rows.now in
    let inside = c.loop-k-test.true in (
      inv.0,
      rw (c.member_samples-m.ensures, c.description_at.ensures, c.count_at-n.ensures)
          (counting-next _ _ _ _ inv.1 (omega (arith, inside, inv.0, rows-length l)) (rw c.count_at-n.ensures at c.if-covered-n.false)),
    )

pub returns : goal.returns
returns c =
    let inv = c.loop-k.invariant in
    let l = c.args.rows.now in
    counting-end _ _ _ _ inv.1 (omega (arith, c.loop-k-test.false, inv.0, rows-length l))
