-- By the stored status: a value, none, or a refusal.
use mathlib.Core.Path.{◌∙◌}
use Prim.Native.Nat.{◌/◌, ◌%◌}
use native.Mathlib.Omega.{arith}
use lib.ListN.{length, get_or}
use borrow.Author.Tests.{eq-eqb, ne_eqb}
use Rattle.test_vector_lines.specs.Lines.{told_status}
use Rattle.test_vector_lines.proofs.told_status.Goals as goal
use Rattle.test_vector_lines.proofs.told_status.Goals.{then-status-ne0+else-told-ne2-2, else-status-ne0}

pub returns-then-told-ne2 : goal.returns-then-told-ne2
unfolding told_status
returns-then-told-ne2 c = simp (ne_eqb (length c.args.told.now % 8) 2 c.if-told-ne2.true)

pub returns-then-byte-told : goal.returns-then-byte-told
unfolding told_status
returns-then-byte-told c =
    let a = c.args.told.now in
    simp
    (eq-eqb (length a % 8) 2 c.if-told-ne2.false, ne_eqb (get_or a 1 0) (length a / 8) (λ e. c.if-byte-told.true (c.byte.ensures.0 ∙ e)))

pub returns-then-told-ne2-2 : goal.returns-then-told-ne2-2
unfolding told_status
returns-then-told-ne2-2 c =
    let a = c.args.told.now in
    let n = c.args.status in
    simp (
      eq-eqb (length a % 8) 2 (omega arith),
      eq-eqb (get_or a 1 0) (length a / 8) (omega arith),
      ne_eqb n 0 c.if-status-ne0.true,
      ne_eqb (length a) 2 c.if-told-ne2-2.true,
    )

pub returns : goal.returns
unfolding told_status
returns c =
    let a = c.args.told.now in
    let n = c.args.status in
    let whole = eq-eqb (length a % 8) 2 (omega arith) in
    let counted = eq-eqb (get_or a 1 0) (length a / 8) (omega arith) in
    elim c.if-status-ne0.branch [
      | then-status-ne0+else-told-ne2-2 w ↦ simp (whole, counted, ne_eqb n 0 w.if-status-ne0.true, eq-eqb (length a) 2 w.if-told-ne2-2.false, c.byte-2.ensures.0)
      | else-status-ne0 w ↦ simp (whole, counted, eq-eqb n 0 w.if-status-ne0.false, c.byte-2.ensures.0)
    ]
