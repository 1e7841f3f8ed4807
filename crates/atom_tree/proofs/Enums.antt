-- What is left of an answer when a `let .. else` has taken its value away.
use Rattle.std.proofs.Common.{◌≡◌, refl}
use Rattle.std.specs.Prelude.{Result, Ok, Err, Option, Some, None}
use Rattle.base_fields.specs.Answer.{Answer, and_then}
use Rattle.base_fields.specs.Refusal.{told_or_none}
use Rattle.base_fields.specs.declared.refusal.Refusal.{Refusal}

module _ {A : Type 0} where
  -- neither a value nor a refusal
  pub is-nothing : (r : Result (Option A) Refusal) → ((a : A) → r ≡ Ok (Some a) → ⊥) → ((e : Refusal) → r ≡ Err e → ⊥) → r ≡ Ok None
  is-nothing (Ok (Some a)) f g = absurd (f a refl)
  is-nothing (Ok None) f g = refl
  is-nothing (Err e) f g = absurd (g e refl)

  -- no value: what follows does not matter
  pub no_body : {B : Type 0} (t : A → B) (r : Result (Option A) Refusal) (f : B → Answer B) → ((a : A) → r ≡ Ok (Some a) → ⊥) → told_or_none t r ≡ and_then (told_or_none t r) f
  no_body t (Ok (Some a)) f g = absurd (g a refl)
  no_body t (Ok None) f g = refl
  no_body t (Err e) f g = refl
