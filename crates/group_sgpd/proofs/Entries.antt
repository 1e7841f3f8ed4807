-- Entries of a payload: one by what tells its length, and the place behind some of them.
use mathlib.Core.Path.{◌≡◌, refl, ap, sym, ◌∙◌}
use mathlib.Core.Bool.{Bool, true, false}
use mathlib.Core.List.{List}
use Prim.Native.Nat.{ℕ, zero, suc, ◌+◌, ◌-◌, ◌*◌, ◌/◌, ◌≤◌, ◌<◌}
use native.Mathlib.Nat.{suc-mul, zero-mul, add-zero, zero-add, suc-add}
use native.Mathlib.Decide.{dec_lt}
use native.Mathlib.Omega.{arith}
use borrow.Author.Tests.{lt-ltb, le-ltb, ltb-false, ne_eqb, eq-eqb}
use lib.Dec.{ltb, leb, eqb}
use lib.ListN.{length, get_or}
use Rattle.base_fields.specs.Answer.{Answer, given, none, refused, choose, refuse_if, and_then}
use Rattle.base_fields.specs.Number.{be_at}
use Rattle.base_fields.proofs.Answers.{Holds, holds-refuse_if, holds-given, holds-and_then, and_then_assoc, and_then-same, and_then-refuse_if}
use Rattle.group_sgpd.specs.Sgpd.{version, grouping_type_of, default_length_of, entry_count_of, implicit_length, share, prefixed, span_at, spans, pick, declared_entry}
use Rattle.base_fields.specs.Span.{Span}
use Rattle.group_sgpd.specs.Head.{lengths_by, lengths_of, whole, after}
use Rattle.group_sgpd.specs.declared.Lengths.{Lengths}
use Rattle.group_sgpd.specs.declared.Lengths.TheVariants.{Fixed, Prefixed, Shared}

-- the entry at place p by what tells its length
abbrev pub span_by : Lengths → List ℕ → ℕ → Answer Span
span_by (Fixed k) s p = whole s p k
span_by Prefixed s p = refuse_if (ltb (length s) (p + 4)) 33 (whole s (p + 4) (be_at 4 s p))
span_by Shared s p = refuse_if (eqb ((length s - p) / entry_count_of s) 0) 34 (whole s p ((length s - p) / entry_count_of s))

module _ (s : List ℕ) (p : ℕ) where
  abbrev ended : Span → Answer Span
  ended e = whole s e.place e.size

  -- for any tests and lengths
  by_tests : (b c d : Bool) (k m : ℕ) →
      and_then (choose b (choose c (prefixed s p) (given (record { place = p; size = k }))) (choose d (share s p) (given (record { place = p; size = m })))) ended
      ≡ span_by (choose b (choose c Prefixed (Fixed k)) (choose d Shared (Fixed m))) s p
  by_tests true true d k m = and_then-refuse_if (ltb (length s) (p + 4)) 33 _ ended
  by_tests true false d k m = refl
  by_tests false c true k m = and_then-refuse_if (eqb ((length s - p) / entry_count_of s) 0) 34 _ ended
  by_tests false c false k m = refl

  pub span_at-by : span_at s p ≡ span_by (lengths_of s) s p
  unfolding span_at lengths_by
  span_at-by = by_tests (leb 1 (version s)) (eqb (default_length_of s) 0) (eqb (implicit_length (grouping_type_of s)) 0) (default_length_of s) (implicit_length (grouping_type_of s))

  -- by the lengths l that are those of the payload, once they are known to be m
  pub span_at_as : {l m : Lengths} → l ≡ lengths_of s → l ≡ m → span_at s p ≡ span_by m s p
  span_at_as a b = span_at-by ∙ ap (λ (l : Lengths). span_by l s p) (sym a ∙ b)

  abbrev Inside : Span → Type 0
  Inside e = e.place + e.size ≤ length s

  -- an entry that is given lies within the payload
  pub span_at-holds : Holds Inside (span_at s p)
  unfolding span_at
  span_at-holds = holds-and_then Inside (declared_entry s p) ended (λ e d. holds-refuse_if Inside (ltb (length s) (e.place + e.size)) 35 (given e) (λ f. ltb-false _ _ f))

  pub span_at-inside : {e : Span} → span_at s p ≡ given e → e.place + e.size ≤ length s
  span_at-inside g = holds-given Inside (span_at s p) span_at-holds g

-- the place behind n entries
module _ (s : List ℕ) where
  abbrev Within : ℕ → Type 0
  Within q = q ≤ length s

  after_holds : (n p : ℕ) → p ≤ length s → Holds Within (after n s p)
  unfolding after
  after_holds zero p h = h
  after_holds (suc n) p h = holds-and_then Within (span_at s p) _ (λ e g. after_holds n (e.place + e.size) (span_at-inside s p g))

  pub after-inside : (n p : ℕ) {q : ℕ} → p ≤ length s → after n s p ≡ given q → q ≤ length s
  after-inside n p h g = holds-given Within (after n s p) (after_holds n p h) g

  -- one entry, then the others
  pub after-step : (n p : ℕ) {e : Span} → 0 < n → span_at s p ≡ given e → after n s p ≡ after (n - 1) s (e.place + e.size)
  unfolding after
  after-step zero p h g = absurd (omega arith)
  after-step (suc n) p h g = let d : suc n - 1 ≡ n = omega arith in rw (g, d)

  pub after-refused : (n p : ℕ) {m : ℕ} → 0 < n → span_at s p ≡ refused m → after n s p ≡ refused m
  unfolding after
  after-refused zero p h g = absurd (omega arith)
  after-refused (suc n) p h g = rw g

  -- m entries, then n more
  pub after-add : (m n p : ℕ) → after (m + n) s p ≡ and_then (after m s p) (λ q. after n s q)
  unfolding after
  after-add zero n p = rw zero-add
  after-add (suc m) n p =
      rw suc-add (and_then-same (span_at s p) _ _ (λ e g. after-add m n (e.place + e.size)) ∙ sym (and_then_assoc (span_at s p) _ _))

  -- some of the entries, then the others
  pub after-some : (m n p : ℕ) {q : ℕ} → m ≤ n → after m s p ≡ given q → after n s p ≡ after (n - m) s q
  after-some m n p h g = let e : m + (n - m) ≡ n = omega arith in (rw e at (after-add m (n - m) p)) ∙ rw g refl

  -- the entries are read exactly where the place behind them is reached, with the same refusals
  pub spans-after : {B : Type 0} (n p : ℕ) (y : Answer B) → and_then (spans n s p) (λ es. y) ≡ and_then (after n s p) (λ q. y)
  unfolding spans after
  spans-after zero p y = refl
  spans-after (suc n) p y =
      and_then_assoc (span_at s p) _ _
      ∙ and_then-same (span_at s p) _ _ (λ e g. and_then_assoc (spans n s (e.place + e.size)) _ _ ∙ spans-after n (e.place + e.size) y)
      ∙ sym (and_then_assoc (span_at s p) _ _)

  abbrev Counted : ℕ → List Span → Type 0
  Counted n es = length es ≡ n

  spans-holds : (n p : ℕ) → Holds (Counted n) (spans n s p)
  unfolding spans
  spans-holds zero p = refl
  spans-holds (suc n) p =
      holds-and_then (Counted (suc n)) (span_at s p) _
      (λ e g. holds-and_then (Counted (suc n)) (spans n s (e.place + e.size)) _
      (λ es h. ap suc (holds-given (Counted n) (spans n s (e.place + e.size)) (spans-holds n (e.place + e.size)) h)))

  pub spans-length : (n p : ℕ) {es : List Span} → spans n s p ≡ given es → length es ≡ n
  spans-length n p g = holds-given (Counted n) (spans n s p) (spans-holds n p) g

  -- entries of one length k: the product of count and length has to fit, and entry n, counted from 0, is at p + n * k
  pub after-fixed : {k : ℕ} → lengths_of s ≡ Fixed k → (n p : ℕ) → p ≤ length s → after n s p ≡ refuse_if (ltb (length s) (p + n * k)) 35 (given (p + n * k))
  unfolding after
  after-fixed {k} f zero p h = rw (zero-mul, add-zero, le-ltb _ _ h)
  after-fixed {k} f (suc n) p h =
      let e : p + suc n * k ≡ p + k + n * k = omega (arith, suc-mul n k) in
      elim (dec_lt (length s) (p + k)) [
        | yes l ↦
            let o : length s < p + suc n * k = omega arith in
            rw (span_at-by s p, f, lt-ltb _ _ l, lt-ltb _ _ o)
        | no l ↦
            let i : p + k ≤ length s = omega arith in
            rw (span_at-by s p, f, le-ltb _ _ i, e) (after-fixed f n (p + k) i)
      ]

  abbrev no_span : Span
  no_span = record { place = 0; size = 0 }

  -- entry m, counted from 0, of m entries and k + 1 more: reached, and read once all are
  pub spans-at : (m k p : ℕ) → and_then (spans (m + suc k) s p) (λ es. given (get_or es m no_span)) ≡ and_then (after m s p) (λ q. and_then (after (suc k) s q) (λ r. span_at s q))
  unfolding spans after
  spans-at zero k p =
      rw zero-add
      (and_then_assoc (span_at s p) _ _
      ∙ and_then-same (span_at s p) _ _
      (λ e g. and_then_assoc (spans k s (e.place + e.size)) _ _ ∙ spans-after k (e.place + e.size) (given e) ∙ rw g refl)
      ∙ sym (and_then_assoc (span_at s p) _ _))
  spans-at (suc m) k p =
      rw suc-add
      (and_then_assoc (span_at s p) _ _
      ∙ and_then-same (span_at s p) _ _ (λ e g. and_then_assoc (spans (m + suc k) s (e.place + e.size)) _ _ ∙ spans-at m k (e.place + e.size))
      ∙ sym (and_then_assoc (span_at s p) _ _))

  -- entry i of n, counted from 1
  pub spans-pick : (n i p : ℕ) → 0 < i → i ≤ n →
      and_then (spans n s p) (λ es. pick es i) ≡ and_then (after (i - 1) s p) (λ q. and_then (after (n - (i - 1)) s q) (λ r. span_at s q))
  spans-pick n i p a b =
      let e : i - 1 + suc (n - i) ≡ n = omega arith in
      let f : suc (n - i) ≡ n - (i - 1) = omega arith in
      let there : (es : List Span) → spans n s p ≡ given es → pick es i ≡ given (get_or es (i - 1) no_span) =
      (λ es g.
      let z : i ≡ 0 → ⊥ = (λ u. omega arith) in
      let l : i ≤ length es = omega (arith, spans-length n p g) in
      simp (ne_eqb _ _ z, le-ltb _ _ l)) in
      and_then-same (spans n s p) _ _ there ∙ (rw (e, f) at (spans-at (i - 1) (n - i) p))

  -- a number that is none of theirs
  pub spans-none : (n i p : ℕ) → (0 < i → n < i) → and_then (spans n s p) (λ es. pick es i) ≡ and_then (after n s p) (λ q. none)
  spans-none n i p o = and_then-same (spans n s p) _ _ (λ es g. past es (spans-length n p g)) ∙ spans-after n p none
    where
      past : (es : List Span) → length es ≡ n → pick es i ≡ none
      past es e =
          elim (dec_lt 0 i) [
            | yes l ↦
                let z : i ≡ 0 → ⊥ = (λ u. omega arith) in
                let b : length es < i = omega (arith, o l) in
                simp (ne_eqb _ _ z, lt-ltb _ _ b)
            | no l ↦
                let z : i ≡ 0 = omega arith in
                simp (eq-eqb _ _ z)
          ]
