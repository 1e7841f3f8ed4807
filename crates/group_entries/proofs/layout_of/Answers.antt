use mathlib.Core.Logic.{inl, inr}
use borrow.Author.Tests.{ne_eqb}
use Rattle.group_entries.proofs.layout_of.Goals as goal

pub returns-in-1919904876 : goal.returns-in-1919904876
returns-in-1919904876 c = elim c.in-1919904876.is [ inl w ↦ simp w | inr w ↦ simp w ]

pub returns-in-1918988320 : goal.returns-in-1918988320
returns-in-1918988320 c = simp c.in-1918988320.is

pub returns-in-1952803941 : goal.returns-in-1952803941
returns-in-1952803941 c = simp c.in-1952803941.is

pub returns-in-1935765536 : goal.returns-in-1935765536
returns-in-1935765536 c = simp c.in-1935765536.is

pub returns-in-1918989160 : goal.returns-in-1918989160
returns-in-1918989160 c = simp c.in-1918989160.is

pub returns-in-1634497396 : goal.returns-in-1634497396
returns-in-1634497396 c = simp c.in-1634497396.is

pub returns-in_default : goal.returns-in_default
returns-in_default c =
    let r = c.in_default.in_default-own.rest in
    simp (
      ne_eqb _ _ (λ e. r.0.0.0.0.0.1 (inl e)),
      ne_eqb _ _ (λ e. r.0.0.0.0.0.1 (inr e)),
      ne_eqb _ _ r.0.0.0.0.1,
      ne_eqb _ _ r.0.0.0.1,
      ne_eqb _ _ r.0.0.1,
      ne_eqb _ _ r.0.1,
      ne_eqb _ _ r.1,
    )
