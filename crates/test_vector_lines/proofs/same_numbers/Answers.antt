use Prim.Native.Nat.{◌*◌, ◌/◌}
use lib.ListN.{length, get_or}
use mathlib.Core.Path.{sym, ◌∙◌}
use borrow.Author.Tests.{eq-eqb, ne_eqb}
use Rattle.base_fields.specs.Number.{be_at}
use Rattle.test_vector_lines.specs.Lines.{same_numbers}
use Rattle.test_vector_lines.proofs.Laws.{number-first, number-none}
use Rattle.test_vector_lines.proofs.same_numbers.Goals as goal

pub returns-then-seen-out : goal.returns-then-seen-out
unfolding same_numbers
returns-then-seen-out c = let a = c.args in simp (ne_eqb (length a.seen.now / 8) (length a.out.now) c.if-seen-out.true)

pub returns-then-read_u64-out : goal.returns-then-read_u64-out
unfolding same_numbers
returns-then-read_u64-out c =
    let a = c.args in
    let s = a.seen.now in
    let ns = a.out.now in
    let l = c.loop-k in
    let k = l.k in
    let b = c.loop-k-test.true in
    let few = c.if-seen-out.false in
    let read = c.read_u64.ensures.0 in
    simp
    (eq-eqb (length s / 8) (length ns) few, l.invariant ∙ number-first s ns k b, ne_eqb (be_at 8 s (8 * k)) (get_or ns k 0) (λ e. c.if-read_u64-out.true (read ∙ e)))

pub loop-k-preserved : goal.loop-k-preserved
loop-k-preserved c =
    let a = c.args in
    let s = a.seen.now in
    let ns = a.out.now in
    let l = c.loop-k in
    let k = l.k in
    let b = c.loop-k-test.true in
    let read = c.read_u64.ensures.0 in
    l.invariant ∙ number-first s ns k b ∙ simp (eq-eqb (be_at 8 s (8 * k)) (get_or ns k 0) (sym read ∙ c.if-read_u64-out.false))

pub returns : goal.returns
unfolding same_numbers
returns c =
    let a = c.args in
    let s = a.seen.now in
    let ns = a.out.now in
    let l = c.loop-k in
    simp (eq-eqb (length s / 8) (length ns) c.if-seen-out.false, l.invariant ∙ number-none s ns (8 * l.k) l.k c.loop-k-test.false)
