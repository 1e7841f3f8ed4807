use mathlib.Core.Path.{◌≡◌, refl, ap, sym, ◌∙◌}
use Prim.Native.Nat.{◌+◌, ◌≤◌, ◌<◌}
use native.Mathlib.Omega.{arith}
use lib.ListN.{length-set}
use Rattle.base_fields.specs.Answer.{given, input_limit}
use Rattle.base_fields.specs.Span.{Span, span_of}
use Rattle.group_sgpd.specs.Sgpd.{span_at}
use Rattle.group_sgpd.specs.Head.{after, told_span}
use Rattle.group_sgpd.proofs.Entries.{span_at-inside}
use Rattle.group_sgpd.proofs.Heads.{first-is, among}
use Rattle.group_sgpd.proofs.Onward.{first-inside}
use Rattle.group_sgpd.proofs.Placed.{placed_first, placed-all, entry_kept, after_next, placed-next}
use Rattle.group_sgpd.proofs.places.put_places.Goals as goal
use Rattle.group_sgpd.proofs.places.put_places.Goals.{In-Ok}

-- a turn of the loop, and the entry that was read at its place
module _ (c : In-Ok) where
  abbrev read : Span
  read = span_of c.in-Ok.part

  entered : span_at c.args.s.now c.loop-k.at ≡ given read
  entered = sym (ap told_span (sym c.in-Ok.is) ∙ c.span_at.ensures)

  inside : read.place + read.size ≤ input_limit
  inside = omega (arith, span_at-inside _ _ entered, c.requires.read_whole.head.short)

pub loop-k-init : goal.loop-k-init
unfolding after
loop-k-init c =
    let r = c.requires.read_whole in
    (rw (first-is r.head) refl, sym (placed_first r _))

pub span_at-requires : goal.span_at-requires
span_at-requires c =
    let r = c.requires.read_whole.head in
    record { among = among r c.lengths_by-lengths.ensures (first-inside r _ c.loop-k.invariant.0); count_nonzero = omega arith }

pub overflow_cast-run : goal.overflow_cast-run
overflow_cast-run c = omega (arith, inside (goal.at.overflow_cast-run c).In-Ok)

pub overflow_cast-run-in-Ok : goal.overflow_cast-run-in-Ok
overflow_cast-run-in-Ok c = omega (arith, inside (goal.at.overflow_cast-run-in-Ok c).In-Ok)

pub bounds-run-i-in-Ok : goal.bounds-run-i-in-Ok
bounds-run-i-in-Ok c = simp length-set (omega arith)

pub overflow_add-at : goal.overflow_add-at
overflow_add-at c = omega (arith, inside (goal.at.overflow_add-at c).In-Ok)

pub loop-k-preserved : goal.loop-k-preserved
loop-k-preserved c =
    let r = c.requires.read_whole in
    let k = c.loop-k.k in
    let i = c.loop-k.invariant in
    let l : k < c.args.head.entry_count = omega arith in
    (after_next r k l i.0 (entered (goal.at.loop-k-preserved c).In-Ok), rw i.1 (placed-next r k l i.0 (entered (goal.at.loop-k-preserved c).In-Ok) _ c.requires.entry_count_in_bounds))

pub returns-in-Err : goal.returns-in-Err
returns-in-Err c =
    absurd
    (entry_kept c.requires.read_whole c.loop-k.k (omega arith) c.loop-k.invariant.0
    (sym (ap told_span (sym c.in-Err.is) ∙ c.span_at.ensures)))

pub returns : goal.returns
returns c =
    let e : c.loop-k.k ≡ c.args.head.entry_count = omega arith in
    (rw e at c.loop-k.invariant.1) ∙ placed-all c.requires.read_whole _
