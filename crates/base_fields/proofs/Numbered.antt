-- The numbers that an answer refuses with. First laws for the forms that answers are made of, over a predicate R on the number; N says what holds
-- where the answer is none. Then the numbers that the C interface can tell from its statuses 0 (a value) and 255 (none).
use mathlib.Core.Path.{◌≡◌, refl}
use mathlib.Core.Bool.{Bool, true, false}
use mathlib.Core.List.{List}
use Prim.Native.Nat.{ℕ, ◌/◌, ◌≤◌}
use native.Mathlib.Omega.{arith}
use lib.Dec.{ltb}
use lib.ListN.{length}
use Rattle.base_fields.specs.Answer.{Answer, given, none, refused, choose, refuse_if, none_if, and_then, within, input_limit}
use Rattle.base_fields.specs.Records.{room_for}

abbrev pub RefusesBy : (ℕ → Type 0) → Type 0 → {A : Type 0} → Answer A → Type 0
RefusesBy R N (given a) = Unit
RefusesBy R N none = N
RefusesBy R N (refused n) = R n

module _ (R : ℕ → Type 0) (N : Type 0) {A : Type 0} where
  pub by-choose : (test : Bool) (x y : Answer A) → RefusesBy R N x → RefusesBy R N y → RefusesBy R N (choose test x y)
  by-choose true x y f g = f
  by-choose false x y f g = g

  pub by-refuse_if : (test : Bool) (n : ℕ) (rest : Answer A) → R n → RefusesBy R N rest → RefusesBy R N (refuse_if test n rest)
  by-refuse_if test n rest r f = by-choose test (refused n) rest r f

  pub by-none_if : (test : Bool) (rest : Answer A) → N → RefusesBy R N rest → RefusesBy R N (none_if test rest)
  by-none_if test rest o f = by-choose test none rest o f

  pub by-within : (s : List ℕ) (rest : Answer A) → R 55 → RefusesBy R N rest → RefusesBy R N (within s rest)
  by-within s rest r f = by-refuse_if (ltb input_limit (length s)) 55 rest r f

  pub by-and_then : {B : Type 0} (a : Answer B) (f : B → Answer A) → RefusesBy R N a → ((x : B) → a ≡ given x → RefusesBy R N (f x)) → RefusesBy R N (and_then a f)
  by-and_then (given x) f g h = h x refl
  by-and_then none f g h = g
  by-and_then (refused n) f g h = g

-- document 01's numbers end at 73
abbrev pub Number : ℕ → Type 0
Number n = (1 ≤ n) × (n ≤ 73)

abbrev pub Numbered : {A : Type 0} → Answer A → Type 0
Numbered a = RefusesBy Number Unit a

pub numbered_within : {A : Type 0} (s : List ℕ) (rest : Answer A) → Numbered rest → Numbered (within s rest)
numbered_within s rest n = by-within Number Unit s rest (omega arith, omega arith) n

-- 29 of a run with fewer records than values
pub room-numbered : {A : Type 0} (run : List ℕ) (l : List A) → Numbered (room_for run l)
room-numbered run l = by-refuse_if Number Unit (ltb (length run / 2) (length l)) 29 (given l) (omega arith, omega arith) tt
