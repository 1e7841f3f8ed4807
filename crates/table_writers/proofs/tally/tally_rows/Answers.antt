use native.Mathlib.Omega.{arith}
use borrow.Author.Rules.{rules}
use Rattle.base_fields.proofs.Handed.{handed}
use Rattle.table_writers.proofs.Walk.{remain_length}
use Rattle.table_writers.proofs.Tallying.{tallying-first, tallying-step, tallying-end, tallying-over}
use Rattle.table_writers.proofs.tally.tally_rows.Goals as goal

pub loop-r-init : goal.loop-r-init
loop-r-init c = (search rules, tallying-first _)

pub count_row-t-requires : goal.count_row-t-requires
count_row-t-requires c =
    omega (arith, remain_length c.args.rows.now, c.loop-r.invariant.1.rows, c.requires)

pub loop-r-smaller : goal.loop-r-smaller
loop-r-smaller c =
    let g = rw c.in-Some.is at c.in_ok-r.ensures in
    omega (arith, g.onward, g.inside, c.loop-r.invariant.0)

pub loop-r-preserved : goal.loop-r-preserved
loop-r-preserved c =
    let g = rw c.in-Some.is at c.in_ok-r.ensures in
    (g.inside, rw c.count_row-t.ensures (tallying-step c.loop-r.invariant.1 _ _ g.rows g.small))

pub returns-in_err-r : goal.returns-in_err-r
returns-in_err-r c =
    let o = c.in_err-r.ensures in
    rw (handed c.from_residual.ensures) (o.0, tallying-over c.loop-r.invariant.1 o.1)

pub returns : goal.returns
returns c = tallying-end c.loop-r.invariant.1 (rw c.in_default.is at c.in_ok-r.ensures)
