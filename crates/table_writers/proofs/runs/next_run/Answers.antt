-- The first row with samples begins the run.
use mathlib.Core.Path.{◌∙◌}
use Prim.Native.Nat.{◌<◌}
use native.Mathlib.Omega.{arith}
use lib.ListN.{length}
use Rattle.table_rows.specs.Row.{rows_of}
use Rattle.table_rows.proofs.RowAt.{rows-length, from_row}
use Rattle.table_writers.proofs.Walk.{ahead-end, gives-from}
use Rattle.table_writers.proofs.runs.next_run.Goals as goal

pub join-requires : goal.join-requires
join-requires c =
    let in_rows = rw c.record_count.ensures at c.if-k-record_count.true in
    (omega arith, rw c.count_at.ensures (c.pass_empty-k.ensures.some in_rows))

pub returns-then-k-record_count : goal.returns-then-k-record_count
returns-then-k-record_count c =
    let passed = c.pass_empty-k.ensures in
    let l = c.args.rows.now in
    let k = c.pass_empty-k.result in
    let h : k < length (rows_of l) = omega (arith, rows-length l, c.if-k-record_count.true) in
    gives-from l (passed.rows ∙ rw (from_row (rows_of l) k h, c.count_at.ensures, c.description_at.ensures)) (omega (arith, passed.onward)) c.join.result c.join.ensures

pub returns : goal.returns
returns c =
    let passed = c.pass_empty-k.ensures in
    let l = c.args.rows.now in
    passed.rows ∙ ahead-end (rows_of l) c.pass_empty-k.result (omega (arith, rows-length l, passed.inside, c.if-k-record_count.false))
