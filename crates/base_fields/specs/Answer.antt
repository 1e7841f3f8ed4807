-- What every entry answers: a value, none (or done), or the number of a refusal (document 01, "Why a reader turns a film away").
-- An order of checks is written as an order of checks: the first that fails is the answer.
use Rattle.std.specs.Prelude.{ℕ, Bool, true, false, List, ◌++◌, ltb, length, drop}

pub data Answer (A : Type 0) : Type 0 where
  given : A → Answer A
  none : Answer A
  refused : ℕ → Answer A

abbrev pub choose : {A : Type 0} → Bool → A → A → A
choose true a b = a
choose false a b = b

-- the refusal n where the test holds, else what follows
abbrev pub refuse_if : {A : Type 0} → Bool → ℕ → Answer A → Answer A
refuse_if test n rest = choose test (refused n) rest

-- none where the test holds, else what follows
abbrev pub none_if : {A : Type 0} → Bool → Answer A → Answer A
none_if test rest = choose test none rest

-- what follows takes the value; none and a refusal stay as they are
abbrev pub and_then : {A B : Type 0} → Answer A → (A → Answer B) → Answer B
and_then (given a) f = f a
and_then none f = none
and_then (refused n) f = refused n

-- the longest input that is taken, in bytes
abbrev pub input_limit : ℕ
input_limit = 67108864

-- 55 comes before every other answer
abbrev pub within : {A : Type 0} → List ℕ → Answer A → Answer A
within s rest = refuse_if (ltb input_limit (length s)) 55 rest

-- what is written over the first places of a run; what stands behind stays
abbrev pub in_front : {A : Type 0} → List A → List A → List A
in_front front l = front ++ drop (length front) l

-- a lent run after an answer: the value's front is written over it; without a value all of it stays
abbrev pub overwritten : {A B : Type 0} → (A → List B) → Answer A → List B → List B
overwritten front (given a) l = in_front (front a) l
overwritten front none l = l
overwritten front (refused n) l = l
