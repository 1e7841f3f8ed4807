use mathlib.Core.Path.{refl, ◌∙◌}
use native.Mathlib.Omega.{arith}
use Rattle.table_repaint.proofs.Loop.{cuts-ready, cuts-length, cuts-room, cuts-next, cuts-end, stated_fits, first-ready, front-made}
use Rattle.table_repaint.proofs.write.write_repainted.Goals as goal

pub count_at-count-requires : goal.count_at-count-requires
count_at-count-requires c = let f = stated_fits c.requires in omega arith

pub description_at-index-requires : goal.description_at-index-requires
description_at-index-requires c = let f = stated_fits c.requires in omega arith

pub loop-j-init : goal.loop-j-init
loop-j-init c =
    (refl, first-ready c.requires c.count_at-count.ensures c.description_at-index.ensures)

pub count_at-next_count-requires : goal.count_at-next_count-requires
count_at-next_count-requires c = let f = stated_fits c.requires in omega (arith, c.loop-j.invariant.0)

pub description_at-next_index-requires : goal.description_at-next_index-requires
description_at-next_index-requires c = let f = stated_fits c.requires in omega (arith, c.loop-j.invariant.0)

pub put_pieces-tail-requires : goal.put_pieces-tail-requires
put_pieces-tail-requires c =
    let at = c.loop-j in
    cuts-ready at.invariant.1 c.least-x.ensures c.least-y.ensures

pub overflow_cast-from : goal.overflow_cast-from
overflow_cast-from c = omega arith

pub overflow_sub-from : goal.overflow_sub-from
overflow_sub-from c = omega arith

pub overflow_cast-to : goal.overflow_cast-to
overflow_cast-to c = omega arith

pub overflow_sub-to : goal.overflow_sub-to
overflow_sub-to c = omega arith

pub loop-j-preserved : goal.loop-j-preserved
loop-j-preserved c =
    let at = c.loop-j in
    let turn = at.invariant.1 in
    let ex = c.least-x.ensures in
    let ey = c.least-y.ensures in
    let e = c.put_pieces-tail.ensures in (
      cuts-length turn ex ey e,
      cuts-next turn ex ey e (stated_fits c.requires).1 c.loop-j-test.true c.count_at-next_count.ensures c.description_at-next_index.ensures,
    )

pub put_pieces-last-requires : goal.put_pieces-last-requires
put_pieces-last-requires c =
    cuts-ready c.loop-j.invariant.1 c.least-x-2.ensures c.least-y-2.ensures

pub store_last-requires : goal.store_last-requires
store_last-requires c =
    cuts-room c.loop-j.invariant.1 c.least-x-2.ensures c.least-y-2.ensures c.put_pieces-last.ensures

pub shape_of-rows : goal.shape_of-rows
shape_of-rows c = omega arith

pub returns : goal.returns
returns c =
    c.store_last.ensures
    ∙ cuts-end c.loop-j.invariant.1 c.least-x-2.ensures c.least-y-2.ensures c.put_pieces-last.ensures (stated_fits c.requires).1 c.loop-j-test.false
    ∙ front-made c.requires
