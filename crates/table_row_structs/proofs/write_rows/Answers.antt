use Rattle.std.proofs.Common.{◌≡◌, ◌<◌, length, arith}
use Rattle.table_rows.specs.Row.{records_in}
use Rattle.table_row_structs.specs.Steps.{accepted_in}
use Rattle.table_row_structs.proofs.Copying.{up_to, up_to-next, accepted-within, copies}
use Rattle.table_row_structs.proofs.write_rows.Goals as goal

pub loop-i-preserved : goal.loop-i-preserved
loop-i-preserved c =
    let l = c.args.numbers.now in
    let rows = c.args.rows.now in
    let w = accepted-within l rows c.written_over-answer.result c.written_over-answer.ensures in
    let a = c.accepted-n.ensures in
    let h : c.loop-i.i < records_in l = omega arith in
    let g : c.loop-i.i < length rows = omega arith in
    rw (c.loop-i.invariant, c.record_at.ensures) (up_to-next l rows c.loop-i.i h g)

pub returns : goal.returns
returns c =
    let l = c.args.numbers.now in
    let rows = c.args.rows.now in
    let e : c.loop-i.i ≡ accepted_in c.written_over-answer.result = omega arith in
    let z : c.loop-i.rows ≡ up_to l rows (accepted_in c.written_over-answer.result) = rw e at c.loop-i.invariant in
    rw z (copies l rows c.written_over-answer.result c.written_over-answer.ensures)
