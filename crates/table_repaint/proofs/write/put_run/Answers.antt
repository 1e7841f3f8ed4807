-- A run is empty, the first, joins the last row, or begins one; then the row before it is stored.
use mathlib.Core.Path.{◌≡◌, sym}
use Prim.Native.Nat.{◌<◌}
use native.Mathlib.Omega.{arith}
use Rattle.table_repaint.specs.Cut.{run}
use Rattle.table_repaint.proofs.Steps.{put-empty, put_first, put_same, put_other}
use Rattle.table_repaint.specs.Pass.{work_in}
use Rattle.table_repaint.proofs.write.put_run.Goals as goal

pub returns-then-count-eq0 : goal.returns-then-count-eq0
returns-then-count-eq0 c =
    let a = c.args in
    let e : a.count ≡ 0 = omega arith in
    sym (put-empty (work_in a.rows.now a.tail) (run a.count a.index) e)

pub returns-then-tail-eq0 : goal.returns-then-tail-eq0
returns-then-tail-eq0 c =
    let a = c.args in
    let h : 0 < a.count = omega arith in
    let e : a.tail.rows ≡ 0 = omega arith in
    sym (put_first (work_in a.rows.now a.tail) (run a.count a.index) h e)

pub overflow_add-joined : goal.overflow_add-joined
overflow_add-joined c =
    let a = c.args in
    let h : 0 < a.count = omega arith in
    let g : 0 < a.tail.rows = omega arith in
    let e : a.tail.index ≡ a.index = omega arith in
    omega (arith, c.requires.1 h g e)

pub returns-then-tail-index : goal.returns-then-tail-index
returns-then-tail-index c =
    let a = c.args in
    let h : 0 < a.count = omega arith in
    let g : 0 < a.tail.rows = omega arith in
    let e : a.tail.index ≡ a.index = omega arith in
    sym (put_same (work_in a.rows.now a.tail) (run a.count a.index) h g e)

pub returns : goal.returns
returns c =
    let a = c.args in
    let h : 0 < a.count = omega arith in
    let g : 0 < a.tail.rows = omega arith in
    rw c.store_last.ensures (sym (put_other (work_in a.rows.now a.tail) (run a.count a.index) h g (λ e. omega arith)))
