-- By what the tally tells.
use mathlib.Core.Path.{sym}
use native.Mathlib.Omega.{arith}
use Rattle.base_fields.proofs.Handed.{handed}
use Rattle.table_writers.proofs.Walk.{remain_length}
use Rattle.table_writers.proofs.Answering.{over, tally-low, quoted_csgp, quoted_over}
use Rattle.table_writers.proofs.quote_csgp.Goals as goal

pub returns-then-record_count-gt-RECORD_LIMIT : goal.returns-then-record_count-gt-RECORD_LIMIT
returns-then-record_count-gt-RECORD_LIMIT c = sym (over _ (rw c.record_count.ensures at c.if-record_count-gt-RECORD_LIMIT.true))

pub length_of-requires : goal.length_of-requires
length_of-requires c =
    let l = c.args.rows.now in
    let o = rw c.in_ok-tally.was at c.tally_rows.ensures in
    (omega (arith, o.rows, remain_length l, c.if-record_count-gt-RECORD_LIMIT.false), tally-low l _ o)

pub returns : goal.returns
returns c =
    let l = c.args.rows.now in
    let o = rw c.in_ok-tally.was at c.tally_rows.ensures in
    rw c.length_of.ensures (sym (quoted_csgp l _ o (rw c.record_count.ensures at c.if-record_count-gt-RECORD_LIMIT.false)))

pub returns-in_err-tally : goal.returns-in_err-tally
returns-in_err-tally c =
    let l = c.args.rows.now in
    let o = rw c.in_err-tally.was at c.tally_rows.ensures in
    rw (handed c.from_residual.ensures, o.0)
    (sym (quoted_over l o.1 (rw c.record_count.ensures at c.if-record_count-gt-RECORD_LIMIT.false)))
