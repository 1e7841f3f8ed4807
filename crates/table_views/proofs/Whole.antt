-- Whether all samples pass a test: of some behind others, of a pattern by its used positions.
use mathlib.Core.Path.{◌≡◌, refl, ap, sym, ◌∙◌}
use mathlib.Core.Bool.{Bool, true, false, ◌&&◌, and-true, and-eq-true_iff}
use mathlib.Core.Logic.{inl, inr}
use Prim.Native.Nat.{ℕ, zero, suc, ◌*◌, ◌<◌}
use native.Mathlib.Nat.{zero-mul, suc-mul}
use native.Mathlib.Omega.{arith}
use mathlib.Core.List.Memᴰ
use mathlib.Core.List.{List, [], ◌∷◌, ◌++◌, Memᴰ}
use lib.ListN.{length, get_or, length-append}
use Rattle.table_rows.specs.Pattern.{Pattern, samples_from}
use Rattle.table_views.specs.Used.{used, repeat}
use Rattle.table_views.specs.Stretches.{Summary, whole, summary, join}
use Rattle.table_views.proofs.Stretches.{summary_append}
use Rattle.table_views.proofs.Used.{Within, samples-first}

module _ (test : ℕ → Bool) where
  pub whole_append : (a b : List ℕ) → whole test (a ++ b) ≡ (whole test a && whole test b)
  unfolding summary join
  whole_append a b = ap (λ (x : Summary). x.whole) (summary_append test a b)

  pub whole_each : (l : List ℕ) → whole test l ≡ true → (i : ℕ) → Memᴰ i l → test i ≡ true
  unfolding whole
  whole_each [] e i m = absurd (Memᴰ.not-nil m)
  whole_each (x ∷ l) e i m =
      let p = (and-eq-true_iff (test x) (whole test l)).0 e in
      elim (Memᴰ.cases_cons m) [ inl j ↦ ap test j ∙ p.0 | inr r ↦ whole_each l p.1 i r ]

  pub each-whole : (l : List ℕ) → ((i : ℕ) → Memᴰ i l → test i ≡ true) → whole test l ≡ true
  unfolding whole
  each-whole [] h = refl
  each-whole (x ∷ l) h = rw (h x (Memᴰ.head refl), each-whole l (λ i m. h i (Memᴰ.tail m))) refl

  pub at-whole : (l : List ℕ) → ((k : ℕ) → k < length l → test (get_or l k 0) ≡ true) → whole test l ≡ true
  unfolding whole
  at-whole [] h = refl
  at-whole (x ∷ l) h = rw (h 0 (omega arith), at-whole l (λ k b. h (suc k) (omega (arith, b)))) refl

  -- what comes again changes nothing
  whole_again : (l m : List ℕ) → Within m l → whole test (l ++ m) ≡ whole test l
  whole_again l m w = whole_append l m ∙ by (whole test l) refl
    where
      by : (b : Bool) → whole test l ≡ b → (b && whole test m) ≡ b
      by true e = each-whole m (λ i r. whole_each l e i (w i r))
      by false e = refl

  -- so the samples of a pattern pass where its used positions do
  pub whole-pattern : (p : Pattern) → 0 < length p.indices → whole test (samples_from p 0 p.count) ≡ whole test (used p)
  whole-pattern p h = let f = samples-first p h in ap (whole test) f.parts ∙ whole_again (used p) f.later f.again

  pub whole-one : (l : List ℕ) (i : ℕ) → whole test (l ++ i ∷ []) ≡ (whole test l && test i)
  unfolding whole
  whole-one l i = whole_append l (i ∷ []) ∙ ap (λ (b : Bool). whole test l && b) (and-true (test i))

-- a list so many times in a row
pub repeat-length : (m : ℕ) (l : List ℕ) → length (repeat m l) ≡ m * length l
unfolding repeat
repeat-length zero l = sym (zero-mul (length l))
repeat-length (suc m) l = length-append l (repeat m l) ∙ omega (arith, repeat-length m l, suc-mul m (length l))
