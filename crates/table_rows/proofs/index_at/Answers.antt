use mathlib.Core.Path.{◌≡◌, refl, sym, ◌∙◌}
use Prim.Native.Nat.{◌<◌}
use native.Mathlib.Omega.{arith}
use lib.ListN.{length}
use borrow.Author.Rules.{rules}
use Rattle.table_rows.specs.Row.{rows_of}
use Rattle.table_rows.proofs.RowAt.{rows-length, index-here, index-behind, index-past}
use Rattle.table_rows.proofs.index_at.Goals as goal

pub loop-k-init : goal.loop-k-init
loop-k-init c = (search rules, c.record_count-k-end.ensures, refl)

pub returns-then-left-count : goal.returns-then-left-count
returns-then-left-count c =
    let at = c.before in
    let l = at.args.rows.now in
    let h : at.loop-k.k < length (rows_of l) = omega (arith, rows-length l) in
    c.description_at.ensures ∙ sym (at.loop-k.invariant.2 ∙ index-here (rows_of l) at.loop-k.k h _ (rw c.count_at-count.ensures at c.if-left-count.true))

pub loop-k-preserved : goal.loop-k-preserved
loop-k-preserved c =
    let at = c.before in
    let l = at.args.rows.now in
    let h : at.loop-k.k < length (rows_of l) = omega (arith, rows-length l) in
    (search rules, search rules, at.loop-k.invariant.2 ∙ rw c.count_at-count.ensures (index-behind (rows_of l) at.loop-k.k h _ (rw c.count_at-count.ensures at c.if-left-count.false)))

pub returns : goal.returns
returns c =
    let l = c.args.rows.now in
    let h : c.loop-k.k ≡ length (rows_of l) = omega (arith, rows-length l) in
    sym (c.loop-k.invariant.2 ∙ index-past (rows_of l) c.loop-k.k h _)
