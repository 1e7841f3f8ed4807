-- The first front, then the second by `second_left`.
use mathlib.Core.Path.{refl, ap, sym, ◌∙◌}
use Rattle.group_entries.specs.declared.EntryLayout.TheVariants.{Alst}
use Rattle.base_fields.specs.Refusal.{told_value}
use Rattle.group_entries.proofs.Front.{handed}
use Rattle.group_alike.proofs.Pairs.{first-refused}
use Rattle.group_alike.proofs.alst_left.Goals as goal

pub second_left-requires : goal.second_left-requires
second_left-requires c = (
  λ k. (c.type_inv.a k).fits,
  λ k. (c.type_inv.b k).fits,
  ap told_value (sym c.in_ok-m.was) ∙ c.alst_front.ensures,
  c.alst_front-2.ensures,
  λ x. refl,
)

pub returns-in_err-m : goal.returns-in_err-m
returns-in_err-m c = rw (handed c.from_residual.ensures) (first-refused Alst _ _ (ap told_value (sym c.in_err-m.was) ∙ c.alst_front.ensures))
