use Rattle.group_sgpd.specs.Head.{lengths_by}
use Prim.Native.Nat.{◌≤◌}
use mathlib.Core.Path.{sym, ◌∙◌}
use native.Mathlib.Omega.{arith}
use borrow.Author.Tests.{eq-eqb, ne_eqb, le-leb}
use Rattle.group_sgpd.proofs.spans.lengths_by.Goals as goal

pub returns-then-k-eq0 : goal.returns-then-k-eq0
unfolding lengths_by
returns-then-k-eq0 c = simp (c.in-0.is, eq-eqb _ _ (sym c.implicit_length-k.ensures ∙ c.if-k-eq0.true))

pub returns-then-default_length-eq0 : goal.returns-then-default_length-eq0
unfolding lengths_by
returns-then-default_length-eq0 c =
    let h : 1 ≤ c.args.version = omega (arith, c.in_default.in_default-own.rest.1) in
    simp (le-leb _ _ h, eq-eqb _ _ c.if-default_length-eq0.true)

pub returns-else-k-eq0 : goal.returns-else-k-eq0
unfolding lengths_by
returns-else-k-eq0 c = simp (c.in-0.is, ne_eqb _ _ (λ e. c.if-k-eq0.false (c.implicit_length-k.ensures ∙ e)), c.implicit_length-k.ensures)

pub returns-else-default_length-eq0 : goal.returns-else-default_length-eq0
unfolding lengths_by
returns-else-default_length-eq0 c =
    let h : 1 ≤ c.args.version = omega (arith, c.in_default.in_default-own.rest.1) in
    simp (le-leb _ _ h, ne_eqb _ _ c.if-default_length-eq0.false)
