-- Whether two decoded values are the same. The answer is `yes` with a proof that they are equal or `no` with a proof that they are not, so it
-- does not matter how it is found: constructor by constructor and field by field. It computes; the library's tests of pairs and lists do not.
use Rattle.std.specs.Prelude.{◌≡◌, refl, Bool, true, false, List, [], ◌∷◌, ℕ, ℤ, pos, negsuc}
use Rattle.std.proofs.Common.{ap, subst, sym}
use Rattle.std.proofs.Math.Bool.{Bool-discrete}
use mathlib.Core.HLevel.{Discrete}
use Rattle.std.proofs.Math.Decide.{ℕ_discrete}
use Rattle.std.proofs.Math.IntN.{pos-ne-negsuc}
use Rattle.group_entries.specs.Decoded.{Decoded, decide_decoded, Rap, Sap, Point, Rash, OutputPair, Alst}

-- a value that two of its parts make up
abbrev decide_parts : {A B C : Type 0} (one : C → A) (other : C → B) → ((x y : C) → one x ≡ one y → other x ≡ other y → x ≡ y) → Discrete A → Discrete B → Discrete C
decide_parts one other whole d k x y =
    elim (d (one x) (one y)) [
      | yes p ↦ elim (k (other x) (other y)) [ yes q ↦ yes (whole x y p q) | no q ↦ no (λ e. q (ap other e)) ]
      | no p ↦ no (λ e. p (ap one e))
    ]

-- what tells lists apart: that one is empty, its first part and the rest
abbrev IsEmpty : {A : Type 0} → List A → Type 0
IsEmpty [] = Unit {0}
IsEmpty (x ∷ xs) = ⊥

abbrev first_or : {A : Type 0} → A → List A → A
first_or d [] = d
first_or d (x ∷ xs) = x

abbrev rest_of : {A : Type 0} → List A → List A
rest_of [] = []
rest_of (x ∷ xs) = xs

abbrev decide_list : {A : Type 0} → Discrete A → Discrete (List A)
decide_list d [] [] = yes refl
decide_list d [] (y ∷ ys) = no (λ e. subst IsEmpty e tt)
decide_list d (x ∷ xs) [] = no (λ e. subst IsEmpty (sym e) tt)
decide_list d (x ∷ xs) (y ∷ ys) =
    elim (d x y) [
      | yes p ↦ elim (decide_list d xs ys) [ yes q ↦ yes (λ i. p i ∷ q i) | no q ↦ no (λ e. q (ap rest_of e)) ]
      | no p ↦ no (λ e. p (ap (first_or x) e))
    ]

-- the number that an integer is made of
abbrev number_in : ℤ → ℕ
number_in (pos n) = n
number_in (negsuc n) = n

abbrev decide_distance : Discrete ℤ
decide_distance (pos m) (pos n) = elim (ℕ_discrete m n) [ yes e ↦ yes (ap pos e) | no e ↦ no (λ p. e (ap number_in p)) ]
decide_distance (pos m) (negsuc n) = no (λ p. pos-ne-negsuc m n p)
decide_distance (negsuc m) (pos n) = no (λ p. pos-ne-negsuc n m (sym p))
decide_distance (negsuc m) (negsuc n) = elim (ℕ_discrete m n) [ yes e ↦ yes (ap negsuc e) | no e ↦ no (λ p. e (ap number_in p)) ]

abbrev decide_two : Discrete (ℕ × ℕ)
decide_two = decide_parts (λ p. p.0) (λ p. p.1) (λ x y e f i. (e i, f i)) ℕ_discrete ℕ_discrete

abbrev decide_rap : Discrete Rap
decide_rap = decide_parts (λ r. r.known) (λ r. r.number) (λ x y e f i. record { known = e i; number = f i }) Bool-discrete ℕ_discrete

abbrev decide_sap : Discrete Sap
decide_sap = decide_parts (λ r. r.dependent) (λ r. r.type) (λ x y e f i. record { dependent = e i; type = f i }) Bool-discrete ℕ_discrete

abbrev decide_point : Discrete Point
decide_point = decide_parts (λ r. r.bitrate) (λ r. r.share) (λ x y e f i. record { bitrate = e i; share = f i }) ℕ_discrete ℕ_discrete

abbrev decide_pair : Discrete OutputPair
decide_pair = decide_parts (λ r. r.output) (λ r. r.total) (λ x y e f i. record { output = e i; total = f i }) ℕ_discrete ℕ_discrete

abbrev decide_rash : Discrete Rash
decide_rash =
    decide_parts (λ r. (r.points, r.maximum)) (λ r. (r.minimum, r.priority))
    (λ x y e f i. record { points = (e i).0; maximum = (e i).1; minimum = (f i).0; priority = (f i).1 }) decide_two decide_two

abbrev decide_alst : Discrete Alst
decide_alst =
    decide_parts (λ r. r.roll_count_of) (λ r. (r.first_output, r.pairs)) (λ x y e f i. record { roll_count_of = e i; first_output = (f i).0; pairs = (f i).1 })
    ℕ_discrete decide_two

unfoldable pub same_decoded : (a b : Decoded) → Dec (a ≡ b)
unfolding ℕ_discrete
same_decoded =
    decide_decoded decide_distance decide_rap Bool-discrete decide_sap decide_rash (decide_list decide_point) decide_alst (decide_list ℕ_discrete) (decide_list decide_pair)

abbrev pub is_same : {P : Type 0} → Dec P → Bool
is_same (yes e) = true
is_same (no e) = false
