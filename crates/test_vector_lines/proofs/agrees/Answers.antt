-- Status and numbers, each by its own comparison.
use mathlib.Core.Path.{ap, sym, ◌∙◌}
use mathlib.Core.List.{List}
use Prim.Native.Nat.{ℕ}
use borrow.Author.Tests.{eq-eqb, ne_eqb}
use Rattle.test_vector_lines.specs.Lines.{same_numbers}
use Rattle.test_vector_lines.proofs.agrees.Goals as goal

pub returns-then-status-ne0 : goal.returns-then-status-ne0
returns-then-status-ne0 c =
    let a = c.args in
    simp (sym c.same_status.ensures ∙ c.if-same_status.true, ne_eqb a.status 0 c.if-status-ne0.true)

pub returns-then-same_status : goal.returns-then-same_status
returns-then-same_status c =
    let a = c.args in
    let same = sym c.same_status.ensures ∙ c.if-same_status.true in
    simp (same, eq-eqb a.status 0 c.if-status-ne0.false) (c.same_numbers.ensures ∙ ap (λ (seen : List ℕ). same_numbers seen a.out.now) c.numbers.ensures)

pub returns : goal.returns
returns c = simp (sym c.same_status.ensures ∙ c.if-same_status.false)
