-- What a writer promises (A5).
use Rattle.std.specs.Prelude.{ℕ, ◌≡◌, List, length, Result}
use Rattle.base_fields.specs.Answer.{Answer, given, and_then, overwritten}
use Rattle.base_fields.specs.Refusal.{told_value}
use Rattle.base_fields.specs.declared.refusal.Refusal.{Refusal}

-- a writer's result, the number of bytes, and the output afterwards, where the answer is `told`: the bytes are written over its front, else it stays
pub record GivesWritten (told : Answer (List ℕ)) (out after : List ℕ) (r : Result ℕ Refusal) : Type 0 where
  pub answer : told_value r ≡ and_then told (λ b. given (length b))
  pub output : after ≡ overwritten (λ b. b) told out
