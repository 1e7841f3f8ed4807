-- Two answers side by side: the same refusal, or values that are related.
use mathlib.Core.Path.{◌≡◌, refl, ap}
use mathlib.Core.Bool.{Bool, true, false}
use Prim.Native.Nat.{ℕ}
use Rattle.base_fields.specs.Answer.{Answer, given, none, refused, choose, refuse_if, and_then}

-- both are none, both are the same refusal, or both are values that R relates
abbrev pub Both : {A B : Type 0} → (A → B → Type 0) → Answer A → Answer B → Type 0
Both R (given a) (given b) = R a b
Both R (given a) none = ⊥
Both R (given a) (refused n) = ⊥
Both R none (given b) = ⊥
Both R none none = Unit
Both R none (refused n) = ⊥
Both R (refused m) (given b) = ⊥
Both R (refused m) none = ⊥
Both R (refused m) (refused n) = m ≡ n

pub both-and_then : {A B C D : Type 0} (R : A → B → Type 0) (Q : C → D → Type 0) (x : Answer A) (y : Answer B) (f : A → Answer C) (g : B → Answer D)
    → Both R x y → ((a : A) (b : B) → x ≡ given a → y ≡ given b → R a b → Both Q (f a) (g b)) → Both Q (and_then x f) (and_then y g)
both-and_then R Q (given a) (given b) f g h k = k a b refl refl h
both-and_then R Q none none f g h k = tt
both-and_then R Q (refused m) (refused n) f g h k = h
both-and_then {A = A} {B = B} {C = C} {D = D} R Q (given a) none f g h k = elim h [ ]
both-and_then {A = A} {B = B} {C = C} {D = D} R Q (given a) (refused n) f g h k = elim h [ ]
both-and_then {A = A} {B = B} {C = C} {D = D} R Q none (given b) f g h k = elim h [ ]
both-and_then {A = A} {B = B} {C = C} {D = D} R Q none (refused n) f g h k = elim h [ ]
both-and_then {A = A} {B = B} {C = C} {D = D} R Q (refused m) (given b) f g h k = elim h [ ]
both-and_then {A = A} {B = B} {C = C} {D = D} R Q (refused m) none f g h k = elim h [ ]

pub both_refuse : {A B : Type 0} (R : A → B → Type 0) (test : Bool) (n : ℕ) (x : Answer A) (y : Answer B)
    → (test ≡ false → Both R x y) → Both R (refuse_if test n x) (refuse_if test n y)
both_refuse R true n x y h = refl
both_refuse R false n x y h = h refl

pub both-same : {A : Type 0} (R : A → A → Type 0) → ((a : A) → R a a) → (x : Answer A) → Both R x x
both-same R h (given a) = h a
both-same R h none = tt
both-same R h (refused n) = refl

-- equal by what f and g make of the values
pub both_equal : {A B C : Type 0} (f : A → C) (g : B → C) (x : Answer A) (y : Answer B) → Both (λ a b. f a ≡ g b) x y
    → and_then x (λ a. given (f a)) ≡ and_then y (λ b. given (g b))
both_equal f g (given a) (given b) h = ap given h
both_equal f g none none h = refl
both_equal f g (refused m) (refused n) h = ap refused h
both_equal {A = A} {B = B} {C = C} f g (given a) none h = elim h [ ]
both_equal {A = A} {B = B} {C = C} f g (given a) (refused n) h = elim h [ ]
both_equal {A = A} {B = B} {C = C} f g none (given b) h = elim h [ ]
both_equal {A = A} {B = B} {C = C} f g none (refused n) h = elim h [ ]
both_equal {A = A} {B = B} {C = C} f g (refused m) (given b) h = elim h [ ]
both_equal {A = A} {B = B} {C = C} f g (refused m) none h = elim h [ ]

pub both_is : {A : Type 0} (x y : Answer A) → Both (λ a b. a ≡ b) x y → x ≡ y
both_is (given a) (given b) h = ap given h
both_is none none h = refl
both_is (refused m) (refused n) h = ap refused h
both_is {A = A} (given a) none h = elim h [ ]
both_is {A = A} (given a) (refused n) h = elim h [ ]
both_is {A = A} none (given b) h = elim h [ ]
both_is {A = A} none (refused n) h = elim h [ ]
both_is {A = A} (refused m) (given b) h = elim h [ ]
both_is {A = A} (refused m) none h = elim h [ ]

-- what stands behind a test needs to agree only where it is reached
pub refuse_same : {A : Type 0} (test : Bool) (n : ℕ) {x y : Answer A} → (test ≡ false → x ≡ y) → refuse_if test n x ≡ refuse_if test n y
refuse_same true n h = refl
refuse_same false n h = h refl

pub choose-same : {A : Type 0} (test : Bool) {x x' y y' : A} → (test ≡ true → x ≡ x') → (test ≡ false → y ≡ y') → choose test x y ≡ choose test x' y'
choose-same true h k = h refl
choose-same false h k = k refl
