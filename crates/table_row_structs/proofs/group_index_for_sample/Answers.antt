use mathlib.Core.Path.{◌∙◌}
use lib.ListN.{length}
use borrow.Author.Tests.{le-ltb}
use Rattle.base_ids.specs.Limits.{record_limit}
use Rattle.table_row_structs.proofs.Searching.{found-here, found-later, found-none}
use Rattle.table_row_structs.proofs.group_index_for_sample.Goals as goal

pub returns-then-left-row : goal.returns-then-left-row
returns-then-left-row c =
    let rows = c.args.rows.now in
    let l = c.loop-row in
    simp (le-ltb record_limit (length rows) c.if-rows-gt-RECORD_LIMIT.false, l.invariant ∙ found-here rows l.row-index l.left c.loop-row-test.true c.if-left-row.true)

pub loop-row-preserved : goal.loop-row-preserved
loop-row-preserved c =
    let l = c.loop-row in
    l.invariant ∙ found-later c.args.rows.now l.row-index l.left c.loop-row-test.true c.if-left-row.false

pub returns : goal.returns
returns c =
    let rows = c.args.rows.now in
    let l = c.loop-row in
    simp (le-ltb record_limit (length rows) c.if-rows-gt-RECORD_LIMIT.false, l.invariant ∙ found-none rows l.row-index l.left c.loop-row-test.false)
