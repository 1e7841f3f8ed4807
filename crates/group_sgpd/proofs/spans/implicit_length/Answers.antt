use mathlib.Core.Path.{◌≡◌}
use mathlib.Core.Logic.{◌⊎◌, inl, inr}
use Prim.Native.Nat.{ℕ}
use borrow.Author.Tests.{ne_eqb}
use Rattle.base_fields.specs.Fourcc.{roll, prol, rap, tele, sap}
use Rattle.group_sgpd.specs.Sgpd.{implicit_length}
use Rattle.group_sgpd.proofs.spans.implicit_length.Goals as goal

two : (t : ℕ) → (t ≡ prol) ⊎ (t ≡ roll) → 2 ≡ implicit_length t
unfolding implicit_length
two t (inl e) = rw e
two t (inr e) = rw e

one : (t : ℕ) → (t ≡ rap) ⊎ ((t ≡ sap) ⊎ (t ≡ tele)) → 1 ≡ implicit_length t
unfolding implicit_length
one t (inl e) = rw e
one t (inr (inl e)) = rw e
one t (inr (inr e)) = rw e

pub returns-in-1919904876 : goal.returns-in-1919904876
returns-in-1919904876 c = two c.args.grouping_type c.in-1919904876.is

pub returns-in-1918988320 : goal.returns-in-1918988320
returns-in-1918988320 c = one c.args.grouping_type c.in-1918988320.is

pub returns-in_default : goal.returns-in_default
unfolding implicit_length
returns-in_default c =
    let two = c.in_default.in_default-own.rest.0.1 in
    let one = c.in_default.in_default-own.rest.1 in
    simp (ne_eqb _ _ (λ e. two (inl e)), ne_eqb _ _ (λ e. two (inr e)), ne_eqb _ _ (λ e. one (inl e)), ne_eqb _ _ (λ e. one (inr (inl e))), ne_eqb _ _ (λ e. one (inr (inr e))))
