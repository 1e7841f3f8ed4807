use mathlib.Core.Path.{ap, sym, ◌∙◌}
use native.Mathlib.Omega.{arith}
use lib.ListN.{length, length-set}
use lib.Seq.{set_out}
use Rattle.listing_numbers.specs.Store.{stored}
use Rattle.listing_numbers.proofs.put_byte.Goals as goal
use Rattle.listing_numbers.proofs.put_byte.Goals.{then-at-out, else-at-out}

pub shape_of-out : goal.shape_of-out
shape_of-out c = elim c.if-at-out.branch [ then-at-out w ↦ ap length w.out-is ∙ simp length-set | else-at-out w ↦ ap length w.out-is ]

pub returns : goal.returns
unfolding stored
returns c =
    let a = c.args in
    record {
      output = elim c.if-at-out.branch [ then-at-out w ↦ w.out-is | else-at-out w ↦ w.out-is ∙ sym (set_out a.out.now a.at a.byte (omega (arith, w.if-at-out.false))) ];
      next = omega arith;
    }
