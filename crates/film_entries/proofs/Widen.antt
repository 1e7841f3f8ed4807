-- A signed number of 16 bits that is read from its bits and stored at 64 bits stays as it is.
use mathlib.Core.Path.{◌≡◌, ap, sym, subst, ◌∙◌}
use lib.IntN.{ℤ}
use mir.Syntax.{w16, w64}
use mir.Val.{SFits, to_z, of_z}
use mir.Facts.{sfits_widen, to_z-of_z}

module _ {z : ℤ} (fits : SFits w16 z) where
  pub widens : SFits w64 (to_z w16 (of_z w16 z))
  widens = subst (SFits w64) (sym (to_z-of_z fits)) (sfits_widen {w = w16} {w' = w64} tt fits)

  pub widened : to_z w64 (of_z w64 (to_z w16 (of_z w16 z))) ≡ z
  widened = ap (λ (y : ℤ). to_z w64 (of_z w64 y)) (to_z-of_z fits) ∙ to_z-of_z {w = w64} (sfits_widen {w = w16} {w' = w64} tt fits)
