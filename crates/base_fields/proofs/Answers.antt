-- Answers in a row: laws of `and_then`, and what the checks before a value tell of it.
use mathlib.Core.Path.{◌≡◌, refl, ap, subst, ◌∙◌}
use mathlib.Core.Bool.{Bool, true, false}
use mathlib.Core.List.{List}
use Prim.Native.Nat.{ℕ, ◌≤◌}
use native.Mathlib.Omega.{arith}
use borrow.Author.Tests.{le-ltb}
use lib.Dec.{ltb}
use lib.ListN.{length}
use Rattle.base_fields.specs.Answer.{Answer, given, none, refused, choose, refuse_if, none_if, and_then, within, input_limit}

-- a value, or a refusal, is one answer
module _ {A : Type 0} where
  pub given_inj : {x y : A} → ◌≡◌ {A = Answer A} (given x) (given y) → x ≡ y
  given_inj e = cc

  pub refused-given : {n : ℕ} {x : A} → ◌≡◌ {A = Answer A} (refused n) (given x) → ⊥
  refused-given e = let z : ◌≡◌ {A = ℕ} 0 1 = cc in omega arith

  -- a value stands behind a test that failed
  pub given-past : (test : Bool) (n : ℕ) (rest : Answer A) {x : A} → refuse_if test n rest ≡ given x → (test ≡ false) × (rest ≡ given x)
  given-past true n rest e = absurd (refused-given e)
  given-past false n rest e = (refl, e)

  -- a refusal stays where what stands behind the test is another answer with the same refusal
  pub refused-past : {B : Type 0} (test : Bool) (m : ℕ) (x : Answer A) (y : Answer B) {n : ℕ} → (x ≡ refused n → y ≡ refused n) → refuse_if test m x ≡ refused n
      → refuse_if test m y ≡ refused n
  refused-past true m x y f e = cc
  refused-past false m x y f e = f e

  -- and behind the value that it was made from
  pub given-first : {B : Type 0} (a : Answer A) (f : A → Answer B) {y : B} → and_then a f ≡ given y → (x : A) × (a ≡ given x) × (f x ≡ given y)
  given-first (given x) f e = (x, refl, e)
  given-first none f e = let z : ◌≡◌ {A = ℕ} 0 1 = cc in absurd (omega arith)
  given-first (refused n) f e = let z : ◌≡◌ {A = ℕ} 0 1 = cc in absurd (omega arith)

  -- a refusal is the first part's own where a value is made of a value
  pub refused-first : {B : Type 0} (a : Answer A) (f : A → B) {n : ℕ} → and_then a (λ x. given (f x)) ≡ refused n → a ≡ refused n
  refused-first (given x) f e = let z : ◌≡◌ {A = ℕ} 0 1 = cc in absurd (omega arith)
  refused-first none f e = let z : ◌≡◌ {A = ℕ} 0 1 = cc in absurd (omega arith)
  refused-first (refused n) f e = cc

  -- an input that is not too long
  pub within-short : (s : List ℕ) (rest : Answer A) → length s ≤ input_limit → within s rest ≡ rest
  within-short s rest h = simp (le-ltb _ _ h)

-- P holds of the value, if there is one
abbrev pub Holds : {A : Type 0} → (A → Type 0) → Answer A → Type 0
Holds P (given a) = P a
Holds P none = Unit
Holds P (refused n) = Unit

module _ {A : Type 0} (P : A → Type 0) where
  pub holds-refuse_if : (test : Bool) (n : ℕ) (rest : Answer A) → (test ≡ false → Holds P rest) → Holds P (refuse_if test n rest)
  holds-refuse_if true n rest f = tt
  holds-refuse_if false n rest f = f refl

  pub holds-none_if : (test : Bool) (rest : Answer A) → (test ≡ false → Holds P rest) → Holds P (none_if test rest)
  holds-none_if true rest f = tt
  holds-none_if false rest f = f refl

  pub holds-choose : (test : Bool) (x y : Answer A) → (test ≡ true → Holds P x) → (test ≡ false → Holds P y) → Holds P (choose test x y)
  holds-choose true x y f g = f refl
  holds-choose false x y f g = g refl

  pub holds-given : {a : A} (told : Answer A) → Holds P told → told ≡ given a → P a
  holds-given told h e = subst (λ (t : Answer A). Holds P t) e h

pub and_then_assoc : {A B C : Type 0} (a : Answer A) (f : A → Answer B) (g : B → Answer C) → and_then (and_then a f) g ≡ and_then a (λ x. and_then (f x) g)
and_then_assoc (given x) f g = refl
and_then_assoc none f g = refl
and_then_assoc (refused n) f g = refl

-- what follows needs to agree at the value only
pub and_then-same : {A B : Type 0} (a : Answer A) (f g : A → Answer B) → ((x : A) → a ≡ given x → f x ≡ g x) → and_then a f ≡ and_then a g
and_then-same (given x) f g e = e x refl
and_then-same none f g e = refl
and_then-same (refused n) f g e = refl

-- what holds of the value behind a first part
pub holds-and_then : {A B : Type 0} (P : B → Type 0) (a : Answer A) (f : A → Answer B) → ((x : A) → a ≡ given x → Holds P (f x)) → Holds P (and_then a f)
holds-and_then P (given x) f h = h x refl
holds-and_then P none f h = tt
holds-and_then P (refused n) f h = tt

pub and_then-refuse_if : {A B : Type 0} (t : Bool) (n : ℕ) (x : Answer A) (f : A → Answer B) → and_then (refuse_if t n x) f ≡ refuse_if t n (and_then x f)
and_then-refuse_if true n x f = refl
and_then-refuse_if false n x f = refl

-- 55 first, then the refusals of x, then what takes its value
pub within_then : {A B : Type 0} (x : Answer A) (f : A → Answer B) (s : List ℕ) {y : Answer A} → y ≡ within s x → and_then y f ≡ within s (and_then x f)
within_then x f s e = ap (λ (a : Answer _). and_then a f) e ∙ and_then-refuse_if (ltb input_limit (length s)) 55 x f
