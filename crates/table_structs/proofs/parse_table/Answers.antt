use Rattle.std.proofs.Common.{◌≡◌, ◌<◌, length, refl, arith}
use Rattle.table_structs.specs.Table.{parsed_table}
use Rattle.table_structs.proofs.Filling.{rows_written, written_all, written_next, behind-first, behind-asks, behind-next}
use Rattle.table_structs.proofs.parse_table.Goals as goal

pub loop-k-init : goal.loop-k-init
loop-k-init c =
    (omega arith, refl, behind-first (parsed_table c.args.kind c.args.s.now (length c.args.rows.now)) c.args.s.now c.args.rows.now c.plan_table-plan.result c.plan_table-plan.ensures, refl)

pub next_row-next-requires : goal.next_row-next-requires
next_row-next-requires c =
    let told = parsed_table c.args.kind c.args.s.now (length c.args.rows.now) in
    behind-asks told c.args.s.now c.args.rows.now c.plan_table-plan.result c.plan_table-plan.ensures c.loop-k.k c.loop-k.cursor c.loop-k.invariant.2 (omega arith)

pub loop-k-preserved : goal.loop-k-preserved
loop-k-preserved c =
    let told = parsed_table c.args.kind c.args.s.now (length c.args.rows.now) in
    let ys = c.args.rows.now in
    let p = c.plan_table-plan.result in
    let e = c.plan_table-plan.ensures in
    let b = c.loop-k.invariant.2 in
    let h : c.loop-k.k < p.count = omega arith in
    let r = c.next_row-next.result in
    let g = c.next_row-next.ensures in (
      omega arith,
      c.loop-k.invariant.1,
      behind-next told c.args.s.now ys p e c.loop-k.k c.loop-k.cursor b h r g,
      rw c.loop-k.invariant.3 (written_next told c.args.s.now ys p e c.loop-k.k c.loop-k.cursor b h r g),
    )

pub returns : goal.returns
returns c =
    let told = parsed_table c.args.kind c.args.s.now (length c.args.rows.now) in
    let p = c.plan_table-plan.result in
    let n : c.loop-k.k ≡ p.count = omega arith in
    let z : c.loop-k.rows ≡ rows_written told c.args.rows.now p.count = rw n at c.loop-k.invariant.3 in
    rw z (written_all told c.args.s.now c.args.rows.now p c.plan_table-plan.ensures)
