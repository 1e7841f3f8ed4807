-- Laws of sync numbers: the greatest up to a limit in one pass over rising numbers, and when a number is among others.
use mathlib.Core.Path.{◌≡◌, refl, sym, ◌∙◌}
use mathlib.Core.Bool.{Bool, true, false, ◌&&◌}
use mathlib.Core.Logic.{◌↔◌}
use mathlib.Core.List.{List, [], ◌∷◌}
use Prim.Native.Nat.{ℕ, zero, suc, ◌≤◌, ◌<◌}
use native.Mathlib.Omega.{arith}
use lib.Dec.{ltb, eqb}
use lib.ListN.{length, get_or}
use borrow.Author.Tests.{lt-ltb, le-ltb, eq-eqb, ltb-true, ltb-false, eqb-true}
use Rattle.base_fields.specs.Answer.{choose}
use Rattle.table_sync.specs.Sync.{rising, among, last_up_to}

-- the greater of two numbers, where the first is not over the limit, else the second
abbrev greater : ℕ → ℕ → ℕ → ℕ
greater limit n rest = choose (ltb limit n) rest (choose (ltb rest n) n rest)

module _ (limit n rest : ℕ) where
  over : limit < n → greater limit n rest ≡ rest
  over h = simp (lt-ltb limit n h)

  above : n ≤ limit → rest < n → greater limit n rest ≡ n
  above h k = simp (le-ltb limit n h, lt-ltb rest n k)

  under : n ≤ limit → n ≤ rest → greater limit n rest ≡ rest
  under h k = simp (le-ltb limit n h, le-ltb rest n k)

  -- by the two tests
  by_tests : (P : ℕ → Type 0) → (limit < n → P rest) → (n ≤ limit → rest < n → P n) → (n ≤ limit → n ≤ rest → P rest) → P (greater limit n rest)
  by_tests P f g h = by (ltb limit n) (ltb rest n) refl refl
    where
      by : (a b : Bool) → ltb limit n ≡ a → ltb rest n ≡ b → P (choose a rest (choose b n rest))
      by true b e k = f (ltb-true limit n e)
      by false true e k = g (ltb-false limit n e) (ltb-true rest n k)
      by false false e k = h (ltb-false limit n e) (ltb-false rest n k)

-- it does not pass the limit
pub up_to_le : (limit : ℕ) (l : List ℕ) → last_up_to limit l ≤ limit
unfolding last_up_to
up_to_le limit [] = omega arith
up_to_le limit (n ∷ ns) =
    let rest : last_up_to limit ns ≤ limit = up_to_le limit ns in
    by_tests limit n (last_up_to limit ns) (λ x. x ≤ limit) (λ h. rest) (λ h k. h) (λ h k. rest)

-- it is at least each number up to the limit
pub up_to-most : (limit : ℕ) (l : List ℕ) (k : ℕ) → k < length l → get_or l k 0 ≤ limit → get_or l k 0 ≤ last_up_to limit l
unfolding last_up_to
up_to-most limit [] k h e = absurd (omega arith)
up_to-most limit (n ∷ ns) zero h e =
    by_tests limit n (last_up_to limit ns) (λ x. n ≤ x) (λ f. absurd (omega arith)) (λ f g. omega arith) (λ f g. g)
up_to-most limit (n ∷ ns) (suc k) h e =
    let rest : get_or ns k 0 ≤ last_up_to limit ns = up_to-most limit ns k (omega arith) e in
    by_tests limit n (last_up_to limit ns) (λ x. get_or ns k 0 ≤ x) (λ f. rest) (λ f g. omega arith) (λ f g. rest)

-- and one of the numbers, unless it is 0
pub up_to-there : (limit : ℕ) (l : List ℕ) → (last_up_to limit l ≡ 0 → ⊥) → (k : ℕ) × (k < length l) × (get_or l k 0 ≡ last_up_to limit l)
unfolding last_up_to
up_to-there limit [] h = absurd (h refl)
up_to-there limit (n ∷ ns) h =
    by_tests limit n (last_up_to limit ns) (λ x. (x ≡ 0 → ⊥) → (k : ℕ) × (k < suc (length ns)) × (get_or (n ∷ ns) k 0 ≡ x))
    (λ f g. behind (up_to-there limit ns g)) (λ f g i. (0, omega arith, refl)) (λ f g i. behind (up_to-there limit ns i)) h
  where
    behind : {x : ℕ} → (k : ℕ) × (k < length ns) × (get_or ns k 0 ≡ x) → (k : ℕ) × (k < suc (length ns)) × (get_or (n ∷ ns) k 0 ≡ x)
    behind (k, l, e) = (suc k, omega arith, e)

-- a number is among others exactly where one of them is it
abbrev pub Among : ℕ → List ℕ → Type 0
Among n l = (k : ℕ) × (k < length l) × (get_or l k 0 ≡ n)

among_there : (n : ℕ) (l : List ℕ) → among n l ≡ true → Among n l
unfolding among
among_there n [] e = let z : ◌≡◌ {A = ℕ} 0 1 = cc in absurd (omega arith)
among_there n (m ∷ ms) e = by (eqb m n) refl e (among_there n ms)
  where
    by : (t : Bool) → eqb m n ≡ t → choose t true (among n ms) ≡ true → (among n ms ≡ true → Among n ms) → Among n (m ∷ ms)
    by true f g h = (0, omega arith, eqb-true m n f)
    by false f g h = let x = h g in (suc x.0, omega (arith, x.1), x.2)

among-found : (n : ℕ) (l : List ℕ) (k : ℕ) → k < length l → get_or l k 0 ≡ n → among n l ≡ true
unfolding among
among-found n [] k h e = absurd (omega arith)
among-found n (m ∷ ms) zero h e = simp (eq-eqb m n e)
among-found n (m ∷ ms) (suc k) h e = by (eqb m n) (among-found n ms k (omega arith) e)
  where
    by : (t : Bool) → among n ms ≡ true → choose t true (among n ms) ≡ true
    by true f = refl
    by false f = f

pub among-is : (n : ℕ) (l : List ℕ) → (among n l ≡ true) ↔ Among n l
among-is n l = (among_there n l, λ x. among-found n l x.0 x.1 x.2)

bool_same : (a b : Bool) → (a ≡ true → b ≡ true) → (b ≡ true → a ≡ true) → a ≡ b
bool_same true b f g = sym (f refl)
bool_same false true f g = g refl
bool_same false false f g = refl

-- a number above 0 is among others exactly where it is the greatest up to itself
pub among-last : (n : ℕ) (l : List ℕ) → 0 < n → eqb (last_up_to n l) n ≡ among n l
among-last n l h =
    bool_same (eqb (last_up_to n l) n) (among n l)
    (λ e.
    let f = eqb-true (last_up_to n l) n e in
    let x = up_to-there n l (λ z. omega (arith, z, f)) in
    among-found n l x.0 x.1 (x.2 ∙ f))
    (λ e.
    let x = among_there n l e in
    let most = up_to-most n l x.0 x.1 (omega (arith, x.2)) in
    eq-eqb (last_up_to n l) n (omega (arith, up_to_le n l, most, x.2)))

-- the greatest so far, one number after the other
unfoldable pub last_from : ℕ → ℕ → List ℕ → ℕ
last_from limit found [] = found
last_from limit found (n ∷ ns) = last_from limit (choose (ltb limit n) found n) ns

-- what rises begins above
rising-first : (last n : ℕ) (ns : List ℕ) → rising last (n ∷ ns) ≡ true → (last < n) × (rising n ns ≡ true)
unfolding rising
rising-first last n ns e = by (ltb last n) refl e
  where
    by : (t : Bool) → ltb last n ≡ t → t && rising n ns ≡ true → (last < n) × (rising n ns ≡ true)
    by true f g = (ltb-true last n f, g)
    by false f g = let z : ◌≡◌ {A = ℕ} 0 1 = cc in absurd (omega arith)

-- over rising numbers the last one up to the limit is the greatest
pub last-rising : (limit last found : ℕ) (l : List ℕ) → rising last l ≡ true → found ≤ last
    → last_from limit found l ≡ choose (ltb found (last_up_to limit l)) (last_up_to limit l) found
unfolding last_from last_up_to
last-rising limit last found [] e h = simp (le-ltb found 0 (omega arith))
last-rising limit last found (n ∷ ns) e h =
    let r = rising-first last n ns e in
    by (omega (arith, r.0)) (ltb limit n) (last-rising limit n found ns r.1 (omega (arith, r.0))) (last-rising limit n n ns r.1 (omega arith))
  where
    greatest : (u : ℕ) → n ≤ u → choose (ltb n u) u n ≡ u
    greatest u k = pick (ltb n u) refl
      where
        pick : (t : Bool) → ltb n u ≡ t → choose t u n ≡ u
        pick true f = refl
        pick false f = omega (arith, ltb-false n u f)

    taken : found < n → (u : ℕ) (t : Bool) → ltb u n ≡ t → choose (ltb n u) u n ≡ choose (ltb found (choose t n u)) (choose t n u) found
    taken l u true f = simp (le-ltb n u (omega (arith, ltb-true u n f)), lt-ltb found n l)
    taken l u false f = let k : n ≤ u = ltb-false u n f in greatest u k ∙ simp (lt-ltb found u (omega arith))

    by : found < n → (t : Bool) → last_from limit found ns ≡ choose (ltb found (last_up_to limit ns)) (last_up_to limit ns) found
        → last_from limit n ns ≡ choose (ltb n (last_up_to limit ns)) (last_up_to limit ns) n
        → last_from limit (choose t found n) ns
        ≡ choose (ltb found (choose t (last_up_to limit ns) (choose (ltb (last_up_to limit ns) n) n (last_up_to limit ns))))
        (choose t (last_up_to limit ns) (choose (ltb (last_up_to limit ns) n) n (last_up_to limit ns))) found
    by l true a b = a
    by l false a b = b ∙ taken l (last_up_to limit ns) (ltb (last_up_to limit ns) n) refl
