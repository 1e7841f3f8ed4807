use mathlib.Core.Path.{◌≡◌, refl, ap, sym, ◌∙◌}
use Prim.Native.Nat.{◌+◌, ◌*◌, ◌<◌}
use native.Mathlib.Omega.{arith}
use borrow.Author.Rules.{rules}
use lib.ListN.{length, get_or}
use lib.Seq.{sets, length-sets}
use Rattle.table_rows.specs.Row.{rows_of, no_row}
use Rattle.table_rows.proofs.RowAt.{rows-length}
use Rattle.table_writers.specs.Words.{word}
use Rattle.table_writers.proofs.Bytes.{words_row, words-end}
use Rattle.table_writers.proofs.sbgp.put_rows.Goals as goal

pub loop-k-init : goal.loop-k-init
loop-k-init c = (c.record_count-k-end.ensures, refl, refl)

pub loop-k-preserved : goal.loop-k-preserved
loop-k-preserved c =
    let o = c.loop-k in
    let l = c.args.rows.now in
    let rs = rows_of l in
    let h : o.k < length rs = omega (arith, rows-length l) in
    let p = 12 + 8 * o.k in
    let next : 16 + 8 * o.k ≡ p + 4 = omega arith in
    let behind : 12 + 8 * (o.k + 1) ≡ p + 4 + 4 = omega arith in
    let out : c.put_word-in-loop-k.new.out ≡ sets (sets o.out p (word (get_or rs o.k no_row).count)) (p + 4) (word (get_or rs o.k no_row).index) =
    c.put_word-in-loop-k.ensures ∙ rw (next, c.put_word.ensures, c.count_at.ensures, c.description_at.ensures) refl in (
      search rules,
      ap length out ∙ simp length-sets o.invariant.1,
      rw (behind, out) (sym (words_row rs o.k h p o.out) ∙ o.invariant.2),
    )

pub shape_of-out : goal.shape_of-out
shape_of-out c = c.loop-k.invariant.1

pub returns : goal.returns
returns c =
    let o = c.loop-k in
    let l = c.args.rows.now in
    let h : o.k ≡ length (rows_of l) = omega (arith, rows-length l) in
    sym (words-end (rows_of l) o.k h (12 + 8 * o.k) o.out) ∙ o.invariant.2
