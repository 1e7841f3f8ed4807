use mathlib.Core.Path.{refl, sym, ◌∙◌}
use native.Mathlib.Omega.{arith}
use borrow.Author.Rules.{rules}
use Rattle.table_writers.proofs.Halves.{number-length, number-free, row_room, row_put, indices_step, indices-end}
use Rattle.table_writers.proofs.csgp.put_indices.Goals as goal

pub loop-r-init : goal.loop-r-init
loop-r-init c = (search rules, c.requires.0, refl, refl)

pub index_field-requires : goal.index_field-requires
index_field-requires c =
    (c.requires.1, c.loop-r.invariant.1.width)

pub put_number-requires : goal.put_number-requires
put_number-requires c =
    let o = c.loop-r in
    let a = c.args in
    let g = rw c.in-Ok-Some.field-0-is at c.in-Ok-Some.ensures in
    (row_room _ _ g.rows a.m a.m o.h o.out o.invariant.1, o.invariant.1.width, o.invariant.1.free)

pub overflow_add-h : goal.overflow_add-h
overflow_add-h c =
    let o = c.loop-r in
    let a = c.args in
    let g = rw c.in-Ok-Some.field-0-is at c.in-Ok-Some.ensures in
    omega (arith, row_room _ _ g.rows a.m a.m o.h o.out o.invariant.1)

pub loop-r-smaller : goal.loop-r-smaller
loop-r-smaller c =
    let g = rw c.in-Ok-Some.field-0-is at c.in-Ok-Some.ensures in
    omega (arith, g.onward, g.inside, c.loop-r.invariant.0)

pub loop-r-preserved : goal.loop-r-preserved
loop-r-preserved c =
    let o = c.loop-r in
    let a = c.args in
    let g = rw c.in-Ok-Some.field-0-is at c.in-Ok-Some.ensures in
    let room = row_room _ _ g.rows a.m a.m o.h o.out o.invariant.1 in (
      g.inside,
      rw c.put_number.ensures
          (row_put _ _ g.rows a.m a.m o.h o.out o.invariant.1 _ (number-length a.m o.h _ o.out) (number-free a.m o.h _ o.out room o.invariant.1.free)),
      rw c.put_number.ensures (number-length a.m o.h _ o.out ∙ o.invariant.2),
      rw (c.put_number.ensures, c.index_field.ensures) (sym (indices_step _ _ g.rows a.m o.h o.out a.marks) ∙ o.invariant.3),
    )

pub shape_of-out-in-Ok-None : goal.shape_of-out-in-Ok-None
shape_of-out-in-Ok-None c = c.loop-r.invariant.2

pub returns-in-Ok-None : goal.returns-in-Ok-None
returns-in-Ok-None c =
    let o = c.loop-r in
    let a = c.args in
    sym (indices-end (rw c.in-Ok-None.field-0-is at c.in-Ok-None.ensures) a.marks a.m o.h o.out) ∙ o.invariant.3

pub shape_of-out-in-Err : goal.shape_of-out-in-Err
shape_of-out-in-Err c = c.loop-r.invariant.2

pub returns-in-Err : goal.returns-in-Err
returns-in-Err c = absurd (omega (arith, c.loop-r.invariant.1.counts, c.in-Err.ensures))
