-- By the test of 55.
use mathlib.Core.Path.{sym}
use Prim.Native.Nat.{◌<◌, ◌≤◌}
use native.Mathlib.Omega.{arith}
use Rattle.base_ids.specs.Limits.{record_limit}
use Rattle.table_rows.specs.Row.{records_in}
use Rattle.table_writers.proofs.Answering.{over, quoted_sbgp}
use Rattle.table_writers.proofs.quote_sbgp.Goals as goal

pub returns-then-records-gt-RECORD_LIMIT : goal.returns-then-records-gt-RECORD_LIMIT
returns-then-records-gt-RECORD_LIMIT c =
    let l = c.args.rows.now in
    let long : record_limit < records_in l = omega (arith, c.record_count-records.ensures, c.if-records-gt-RECORD_LIMIT.true) in
    sym (over _ long)

pub returns : goal.returns
returns c =
    let l = c.args.rows.now in
    let counted = c.record_count-records.ensures in
    let short : records_in l ≤ record_limit = omega (arith, counted, c.if-records-gt-RECORD_LIMIT.false) in
    rw counted (sym (quoted_sbgp l short))
