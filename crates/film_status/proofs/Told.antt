-- A status is never mistaken: where every refusal has a number of document 01, 0 is a value and 255 is none.
use mathlib.Core.Path.{◌≡◌, refl}
use native.Mathlib.Omega.{arith}
use Rattle.base_fields.specs.Answer.{Answer, given, none, refused}
use Rattle.base_fields.proofs.Numbered.{Numbered}
use Rattle.film_status.specs.Status.{status_of}

module _ {A : Type 0} where
  pub status-value : (a : Answer A) → Numbered a → status_of a ≡ 0 → (x : A) × (a ≡ given x)
  status-value (given x) n e = (x, refl)
  status-value none n e = absurd (omega arith)
  status-value (refused k) n e = absurd (omega arith)

  pub status-none : (a : Answer A) → Numbered a → status_of a ≡ 255 → a ≡ none
  status-none (given x) n e = absurd (omega arith)
  status-none none n e = refl
  status-none (refused k) n e = absurd (omega arith)
