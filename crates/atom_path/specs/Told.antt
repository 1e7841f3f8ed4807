-- What the code's types stand for.
use Rattle.std.specs.Prelude.{ℕ, ◌-◌, ◌≡◌, List, ◌∷◌, drop, Result}
use Rattle.base_fields.specs.Answer.{Answer, given}
use Rattle.base_fields.specs.Refusal.{number, told}
use Rattle.base_fields.specs.Span.{Span}
use Rattle.base_fields.specs.declared.refusal.Refusal.{Refusal}
use Rattle.atom_tree.specs.Told.{span_of}
use Rattle.atom_tree.specs.declared.BodyAt.{BodyAt}
use Rattle.atom_path.specs.Path.{Level, path, span_number, at_level}
use Rattle.atom_path.specs.declared.level.PathLevel.{PathLevel}
use Rattle.atom_path.specs.declared.level.Sought.{Sought}
use Rattle.atom_path.specs.declared.level.Sought.TheVariants as sought

abbrev pub told_body : Result BodyAt Refusal → Answer Span
told_body = told span_of

abbrev pub level_of : PathLevel → Level
level_of l = record { type = l.fourcc; number = l.number; missing = number l.missing; top = l.top }

-- what a search finds in the bodies that are still ahead
abbrev pub sought_in : Sought → ℕ → List Span → Answer Span
sought_in (sought.Ahead n) missing rest = span_number rest n missing
sought_in (sought.Found b) missing rest = given (span_of b)

-- the last n levels of the path
abbrev pub levels_left : ℕ → ℕ → List Level
levels_left n k = drop (5 - n) (path k)

-- what the first of the last n levels gives in the container b
pub record LevelGives (s : List ℕ) (n k : ℕ) (b : Span) (r : Result BodyAt Refusal) : Type 0 where
  pub level : Level
  pub left : levels_left n k ≡ level ∷ levels_left (n - 1) k
  pub told : told_body r ≡ at_level s level b
