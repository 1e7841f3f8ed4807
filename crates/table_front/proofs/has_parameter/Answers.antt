use mathlib.Core.Path.{sym, ◌∙◌}
use borrow.Author.Tests.{eq-eqb, ne_eqb}
use Rattle.table_front.proofs.has_parameter.Goals as goal

pub returns-in-1 : goal.returns-in-1
returns-in-1 c =
    let k = c.in-Sbgp.is in
    rw k (simp (eq-eqb _ _ (sym c.read_u8.ensures.0 ∙ c.in-1.is)))

pub returns-in_default : goal.returns-in_default
returns-in_default c =
    let k = c.in-Sbgp.is in
    rw k (simp (ne_eqb _ _ (λ e. c.in_default.in_default-own.rest.1 (c.read_u8.ensures.0 ∙ e))))

pub returns-in-1-2 : goal.returns-in-1-2
returns-in-1-2 c =
    let k = c.in-Csgp.is in
    let b = c.read_u8-in-Csgp.ensures.0 in
    rw (k, ← b) (simp (eq-eqb _ _ c.in-1-2.is))

pub returns-in_default-2 : goal.returns-in_default-2
returns-in_default-2 c =
    let k = c.in-Csgp.is in
    let b = c.read_u8-in-Csgp.ensures.0 in
    rw (k, ← b) (simp (ne_eqb _ _ c.in_default-2.in_default-2-own.rest.1))
