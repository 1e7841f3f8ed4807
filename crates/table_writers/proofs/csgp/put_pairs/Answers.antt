use mathlib.Core.Path.{◌≡◌, refl, sym, ◌∙◌}
use Prim.Native.Nat.{◌+◌}
use native.Mathlib.Omega.{arith}
use borrow.Author.Rules.{rules}
use Rattle.table_writers.proofs.Halves.{row_room, row_put, pair-length, pair-free, pairs-step, pairs-place, pairs_end, place_end}
use Rattle.table_writers.proofs.csgp.put_pairs.Goals as goal

pub loop-r-init : goal.loop-r-init
loop-r-init c = (search rules, c.requires, refl, refl, refl)

pub put_pair-requires : goal.put_pair-requires
put_pair-requires c =
    let o = c.loop-r in
    let a = c.args in
    let g = rw c.in-Ok-Some.field-0-is at c.in-Ok-Some.ensures in
    (omega (arith, row_room _ _ g.rows (1 + a.m) a.m o.h o.out o.invariant.1), o.invariant.1.width, o.invariant.1.free)

pub overflow_add-h : goal.overflow_add-h
overflow_add-h c =
    let o = c.loop-r in
    let a = c.args in
    let g = rw c.in-Ok-Some.field-0-is at c.in-Ok-Some.ensures in
    omega (arith, row_room _ _ g.rows (1 + a.m) a.m o.h o.out o.invariant.1)

pub overflow_add-h-in-Ok-Some : goal.overflow_add-h-in-Ok-Some
overflow_add-h-in-Ok-Some c =
    let o = c.loop-r in
    let a = c.args in
    let g = rw c.in-Ok-Some.field-0-is at c.in-Ok-Some.ensures in
    omega (arith, row_room _ _ g.rows (1 + a.m) a.m o.h o.out o.invariant.1)

pub loop-r-smaller : goal.loop-r-smaller
loop-r-smaller c =
    let g = rw c.in-Ok-Some.field-0-is at c.in-Ok-Some.ensures in
    omega (arith, g.onward, g.inside, c.loop-r.invariant.0)

pub loop-r-preserved : goal.loop-r-preserved
loop-r-preserved c =
    let o = c.loop-r in
    let a = c.args in
    let g = rw c.in-Ok-Some.field-0-is at c.in-Ok-Some.ensures in
    let e : o.h + 1 + a.m ≡ o.h + (1 + a.m) = omega arith in
    let room = row_room _ _ g.rows (1 + a.m) a.m o.h o.out o.invariant.1 in (
      g.inside,
      rw (e, c.put_pair.ensures) (row_put _ _ g.rows (1 + a.m) a.m o.h o.out o.invariant.1 _ (pair-length a.m o.h _ o.out) (pair-free a.m o.h _ o.out room)),
      rw c.put_pair.ensures (pair-length a.m o.h _ o.out ∙ o.invariant.2),
      rw c.put_pair.ensures (sym (pairs-step _ _ g.rows a.m o.h o.out) ∙ o.invariant.3),
      sym (pairs-place _ _ g.rows a.m o.h o.out) ∙ o.invariant.4,
    )

pub shape_of-out-in-Ok-None : goal.shape_of-out-in-Ok-None
shape_of-out-in-Ok-None c = c.loop-r.invariant.2

pub returns-in-Ok-None : goal.returns-in-Ok-None
returns-in-Ok-None c =
    let o = c.loop-r in
    let m = c.args.m in
    let none = rw c.in-Ok-None.field-0-is at c.in-Ok-None.ensures in
    (sym (pairs_end none m o.h o.out) ∙ o.invariant.3, sym (place_end none (1 + m) o.h) ∙ o.invariant.4)

pub shape_of-out-in-Err : goal.shape_of-out-in-Err
shape_of-out-in-Err c = c.loop-r.invariant.2

pub returns-in-Err : goal.returns-in-Err
returns-in-Err c = absurd (omega (arith, c.loop-r.invariant.1.counts, c.in-Err.ensures))
