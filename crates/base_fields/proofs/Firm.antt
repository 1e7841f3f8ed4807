-- Answers that are a value or a refusal, never none; and those among them that no lent buffer changes: their refusal is other than 29 and 54.
use mathlib.Core.Path.{◌≡◌, refl}
use mathlib.Core.Bool.{false}
use Prim.Native.Nat.{ℕ}
use borrow.Author.Tests.{eqb-false}
use lib.Dec.{eqb}
use Rattle.base_fields.specs.Answer.{Answer, given, none, refused}
use Rattle.base_fields.proofs.Numbered.{RefusesBy}

-- never none
abbrev pub Settled : {A : Type 0} → Answer A → Type 0
Settled a = RefusesBy (λ n. Unit) ⊥ a

pub never-none : {A : Type 0} (a : Answer A) → Settled a → a ≡ none → ⊥
never-none a h e = rw e at h

-- a refusal other than 29 and 54
abbrev pub Other : ℕ → Type 0
Other n = (eqb n 29 ≡ false) × (eqb n 54 ≡ false)

-- never none either
abbrev pub Firm : {A : Type 0} → Answer A → Type 0
Firm a = RefusesBy Other ⊥ a

pub firm-settled : {A : Type 0} (a : Answer A) → Firm a → Settled a
firm-settled (given x) f = tt
firm-settled (refused n) f = tt
firm-settled {A = A} none f = elim f [ ]

-- such an answer is not 29
pub firm-never_29 : {A : Type 0} (a : Answer A) → Firm a → a ≡ refused 29 → ⊥
firm-never_29 a f e = let o : Other 29 = rw e at f in eqb-false 29 29 o.0 refl
