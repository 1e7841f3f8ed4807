-- The last new row is put over its record, if there is one.
use mathlib.Core.Path.{◌≡◌, sym, ◌∙◌}
use Prim.Native.Nat.{◌<◌}
use native.Mathlib.Omega.{arith}
use Rattle.table_repaint.proofs.Steps.{stored-none, stored_some}
use Rattle.table_repaint.specs.Pass.{work_in}
use Rattle.table_repaint.proofs.write.store_last.Goals as goal

pub returns-then-tail-gt0 : goal.returns-then-tail-gt0
returns-then-tail-gt0 c =
    let a = c.args in
    let h : 0 < a.tail.rows = c.if-tail-gt0.true in
    c.put_row.ensures ∙ sym (stored_some (work_in a.rows.now a.tail) h)

pub returns-else-tail-gt0 : goal.returns-else-tail-gt0
returns-else-tail-gt0 c =
    let a = c.args in
    let e : a.tail.rows ≡ 0 = omega (arith, c.if-tail-gt0.false) in
    sym (stored-none (work_in a.rows.now a.tail) e)
