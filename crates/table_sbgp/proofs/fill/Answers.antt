use mathlib.Core.Path.{refl, ◌∙◌}
use Prim.Native.Nat.{◌<◌}
use native.Mathlib.Omega.{arith}
use Rattle.table_rows.specs.Row.{records_in, flat}
use Rattle.table_sbgp.specs.Sbgp.{read_rows}
use Rattle.table_sbgp.proofs.Table.{put_next}
use Rattle.table_sbgp.proofs.fill.Goals as goal

pub loop-k-init : goal.loop-k-init
unfolding read_rows flat
loop-k-init c = refl

pub put_row-requires : goal.put_row-requires
put_row-requires c = omega arith

pub loop-k-preserved : goal.loop-k-preserved
loop-k-preserved c =
    let a = c.args in
    let k = c.loop-k.k in
    let h : k < records_in a.rows.now = omega arith in
    c.put_row.ensures ∙ rw (c.loop-k.invariant, c.read_u32-sample_count.ensures.0, c.read_u32-index.ensures.0) (put_next a.s.now a.first k a.rows.now h)
