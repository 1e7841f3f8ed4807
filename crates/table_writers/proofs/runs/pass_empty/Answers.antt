use mathlib.Core.Path.{◌≡◌, refl, ◌∙◌}
use Prim.Native.Nat.{◌<◌}
use native.Mathlib.Omega.{arith}
use borrow.Author.Rules.{rules}
use lib.ListN.{length}
use Rattle.table_rows.specs.Row.{rows_of}
use Rattle.table_rows.proofs.RowAt.{rows-length}
use Rattle.table_writers.proofs.Walk.{pass_step}
use Rattle.table_writers.proofs.runs.pass_empty.Goals as goal

pub loop-k-init : goal.loop-k-init
loop-k-init c = (c.record_count-records.ensures, refl)

pub returns-then-count_at-ne0 : goal.returns-then-count_at-ne0
returns-then-count_at-ne0 c =
    let o = c.loop-k in
    record { onward = omega arith; inside = omega arith; rows = o.invariant.1; some = λ h. omega (arith, c.if-count_at-ne0.true, c.count_at.ensures) }

pub loop-k-preserved : goal.loop-k-preserved
loop-k-preserved c =
    let l = c.args.rows.now in
    let k = c.loop-k.k in
    let h : k < length (rows_of l) = omega (arith, rows-length l) in
    (search rules, c.loop-k.invariant.1 ∙ pass_step (rows_of l) k h (rw c.count_at.ensures at c.if-count_at-ne0.false))

pub returns : goal.returns
returns c =
    let n = c.record_count-records.ensures in
    let e : c.loop-k.k ≡ c.record_count-records.result = omega arith in
    record { onward = omega (arith, n); inside = omega (arith, n); rows = rw e at c.loop-k.invariant.1; some = λ h. absurd (omega (arith, n)) }
