use native.Mathlib.Omega.{arith}
use Rattle.table_structs.proofs.Streams.{joining-first, joining-fits, joining-less, joining-again, apart-last, apart_other, joining-ends}
use Rattle.table_structs.proofs.stream.joined_row.Goals as goal

pub hold_run-next-requires : goal.hold_run-next-requires
hold_run-next-requires c = c.requires.0.whole

pub loop-next-init : goal.loop-next-init
loop-next-init c =
    joining-first _ _ _ _ c.requires.1 c.requires.2 c.hold_run-next.ensures

pub overflow_add-count : goal.overflow_add-count
overflow_add-count c = omega (arith, joining-fits _ _ c.loop-next.invariant c.if-next-index.false)

pub hold_run-next-requires-in-loop-next : goal.hold_run-next-requires-in-loop-next
hold_run-next-requires-in-loop-next c = c.loop-next.invariant.ready.whole

pub loop-next-smaller : goal.loop-next-smaller
loop-next-smaller c =
    joining-less _ _ c.loop-next.invariant _ c.hold_run-next-in-loop-next.ensures c.loop-next-test.true

pub loop-next-preserved : goal.loop-next-preserved
loop-next-preserved c =
    joining-again _ _ c.loop-next.invariant _ c.hold_run-next-in-loop-next.ensures c.if-next-index.false

pub returns-after-loop-next : goal.returns-after-loop-next
returns-after-loop-next c =
    let j = c.loop-next.invariant in
    joining-ends _ _ _ c.hold_run-next.ensures j (apart-last _ _ j (omega (arith, c.loop-next-test.false)))

pub returns-then-next-index : goal.returns-then-next-index
returns-then-next-index c =
    let j = c.loop-next.invariant in
    joining-ends _ _ _ c.hold_run-next.ensures j (apart_other _ _ j c.loop-next-test.true c.if-next-index.true)
