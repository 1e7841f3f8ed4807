-- The entries of an sgpd payload stand one behind the other, and where they stand depends on the fixed fields and the lengths before entries only.
use mathlib.Core.Path.{◌≡◌, refl, ap, sym, ◌∙◌}
use mathlib.Core.Logic.{◌⊎◌, inl, inr}
use mathlib.Core.Bool.{Bool, true, false}
use mathlib.Core.List.{List, [], ◌∷◌}
use Prim.Native.Nat.{ℕ, zero, suc, ◌+◌, ◌-◌, ◌*◌, ◌/◌, ◌<◌, ◌≤◌}
use native.Mathlib.Omega.{arith}
use borrow.Author.Tests.{ltb-false, le-ltb}
use lib.Dec.{ltb, leb, eqb}
use lib.ListN.{length}
use Rattle.base_fields.specs.Answer.{Answer, given, none, refused, refuse_if, and_then}
use Rattle.base_fields.specs.Number.{be_at, bit_at}
use Rattle.base_fields.specs.Span.{Span}
use Rattle.base_fields.proofs.Agree.{Same, be_same}
use Rattle.base_fields.proofs.Bits.{Bytes}
use Rattle.base_fields.proofs.Both.{choose-same, refuse_same}
use Rattle.base_fields.proofs.Answers.{Holds, holds-refuse_if, holds-choose, holds-given, and_then-same, given_inj, given-first, given-past, refused-given}
use Rattle.group_sgpd.specs.Sgpd.{version, grouping_type_of, default_length_of, entry_count_place, entry_count_of, implicit_length, declared_entry, span_at, spans}
use Rattle.listing_indifference.specs.Places.{InEntries, laid_out, entries_end}

true-false : {b : Bool} → b ≡ true → b ≡ false → ⊥
true-false x y = let z : ◌≡◌ {A = ℕ} 0 1 = cc in omega arith

-- a length stands before each entry
pub record Prefixed (s : List ℕ) : Type 0 where
  pub later : leb 1 (version s) ≡ true
  pub own : eqb (default_length_of s) 0 ≡ true

module _ (s : List ℕ) (p : ℕ) where
  pub record Onward (e : Span) : Type 0 where
    pub place : p ≤ e.place
    pub behind : Prefixed s → p + 4 ≤ e.place

  declared-onward : Holds Onward (declared_entry s p)
  declared-onward =
      let P = Onward in
      holds-choose P (leb 1 (version s)) _ _
      (λ x. holds-choose P (eqb (default_length_of s) 0) _ _
      (λ y. holds-refuse_if P (ltb (length s) (p + 4)) 33 _ (λ _. record { place = omega arith; behind = λ _. omega arith }))
      (λ y. record { place = omega arith; behind = λ f. absurd (true-false f.own y) }))
      (λ x. holds-choose P (eqb (implicit_length (grouping_type_of s)) 0) _ _
      (λ y. holds-refuse_if P (eqb ((length s - p) / entry_count_of s) 0) 34 _ (λ _. record { place = omega arith; behind = λ f. absurd (true-false f.later x) }))
      (λ y. record { place = omega arith; behind = λ f. absurd (true-false f.later x) }))

  pub entry-onward : {e : Span} → declared_entry s p ≡ given e → Onward e
  entry-onward f = holds-given Onward _ declared-onward f

  pub span-declared : {e : Span} → span_at s p ≡ given e → declared_entry s p ≡ given e
  unfolding span_at
  span-declared f =
      let one = given-first (declared_entry s p) _ f in
      let whole = given-past (ltb (length s) (one.0.place + one.0.size)) 35 _ one.2 in
      one.1 ∙ whole.1

  -- where a length is there, an entry is declared
  pub prefixed-given : Prefixed s → p + 4 ≤ length s → declared_entry s p ≡ given (record { place = p + 4; size = be_at 4 s p })
  prefixed-given f h = rw (f.own, f.later, le-ltb (length s) (p + 4) h)

module _ (s : List ℕ) where
  -- the first of some entries, and the others; or none
  pub laid_cons : (n p : ℕ) {e : Span} → declared_entry s p ≡ given e → laid_out (suc n) s p ≡ e ∷ laid_out n s (e.place + e.size)
  unfolding laid_out
  laid_cons n p f = rw f

  pub laid_none : (n p : ℕ) → ((e : Span) → declared_entry s p ≡ given e → ⊥) → laid_out (suc n) s p ≡ []
  unfolding laid_out
  laid_none n p g = by (declared_entry s p) refl
    where
      by : (x : Answer Span) → declared_entry s p ≡ x → laid_out (suc n) s p ≡ []
      by (given e) f = absurd (g e f)
      by none f = rw f
      by (refused m) f = rw f

  pub end-behind : (n p : ℕ) → p ≤ entries_end (laid_out n s p) p
  unfolding laid_out
  end-behind zero p = omega arith
  end-behind (suc n) p = by (declared_entry s p) refl (λ e. end-behind n (e.place + e.size))
    where
      by : (x : Answer Span) → declared_entry s p ≡ x → ((e : Span) → e.place + e.size ≤ entries_end (laid_out n s (e.place + e.size)) (e.place + e.size))
          → p ≤ entries_end (laid_out (suc n) s p) p
      by (given e) f h = rw (laid_cons n p f) (omega (arith, (entry-onward s p f).place, h e))
      by none f h = rw f (omega arith)
      by (refused m) f h = rw f (omega arith)

  pub entries-behind : (P : ℕ → Span → ℕ → Type 0) (n p k i : ℕ) → InEntries P k (laid_out n s p) i → 8 * p ≤ i
  unfolding laid_out
  entries-behind P zero p k i h = absurd h
  entries-behind P (suc n) p k i h = by (declared_entry s p) refl (λ e. entries-behind P n (e.place + e.size) (suc k) i)
    where
      by : (x : Answer Span) → declared_entry s p ≡ x
          → ((e : Span) → InEntries P (suc k) (laid_out n s (e.place + e.size)) i → 8 * (e.place + e.size) ≤ i) → 8 * p ≤ i
      by (given e) f g =
          elim (rw (laid_cons n p f) at h) [
            | inl x ↦ omega (arith, x.0, (entry-onward s p f).place)
            | inr x ↦ omega (arith, (entry-onward s p f).place, g e x)
          ]
      by none f g = absurd (rw f at h)
      by (refused m) f g = absurd (rw f at h)

  -- the entries of a payload that is read whole
  pub laid-are : (n p : ℕ) {es : List Span} → spans n s p ≡ given es → laid_out n s p ≡ es
  unfolding spans laid_out
  laid-are zero p g = given_inj g
  laid-are (suc n) p g =
      let one = given-first (span_at s p) _ g in
      let next = one.0.place + one.0.size in
      let more = given-first (spans n s next) _ one.2 in
      laid_cons n p (span-declared s p one.1) ∙ ap (λ (l : List Span). one.0 ∷ l) (laid-are n next more.1) ∙ given_inj more.2

-- the fixed fields agree, as far as they are used
pub record SameHead (a b : List ℕ) : Type 0 where
  pub first : Bytes a
  pub second : Bytes b
  pub long : length a ≡ length b
  pub version : be_at 1 a 0 ≡ be_at 1 b 0
  pub type : be_at 4 a 4 ≡ be_at 4 b 4
  pub default : be_at 4 a 8 ≡ be_at 4 b 8
  pub count : be_at 4 a (entry_count_place a) ≡ be_at 4 b (entry_count_place a)

-- entry by entry, the first has number k: each bit of the contents is the same, or one of which P holds
abbrev pub Contents : (ℕ → Span → ℕ → Type 0) → ℕ → List ℕ → List ℕ → List Span → Type 0
Contents P k a b [] = Unit
Contents P k a b (e ∷ es) =
    ((j : ℕ) → j < 8 * e.size → (bit_at a (8 * e.place + j) ≡ bit_at b (8 * e.place + j)) ⊎ P k e j) × Contents P (suc k) a b es

module _ {a b : List ℕ} (h : SameHead a b) where
  -- an entry's place and length need the four bytes before it, and only where a length stands there
  pub span_same : (p : ℕ) → (Prefixed a → p + 4 ≤ length a → Same a b (8 * p) (8 * (p + 4))) → span_at a p ≡ span_at b p
  unfolding span_at
  span_same p f =
      rw (← h.long, ← h.version, ← h.count, ← h.type, ← h.default)
      (ap (λ (x : Answer Span). and_then x (λ e. refuse_if (ltb (length a) (e.place + e.size)) 35 (given e)))
      (choose-same (leb 1 (version a))
      (λ x. choose-same (eqb (default_length_of a) 0)
      (λ y. refuse_same (ltb (length a) (p + 4)) 33 (λ z. rw (be_same 4 a b p h.first h.second (f (record { later = x; own = y }) (ltb-false _ _ z)))))
      (λ y. refl))
      (λ x. refl)))

  module _ (P : ℕ → Span → ℕ → Type 0) where
    -- bit i is the same in both, or one of the contents that P allows, or stands behind n entries from place p on
    abbrev pub Left : ℕ → ℕ → ℕ → ℕ → Type 0
    Left n p k i = (bit_at a i ≡ bit_at b i) ⊎ (InEntries P k (laid_out n a p) i ⊎ (8 * entries_end (laid_out n a p) p ≤ i))

    -- the same entries, or the same refusal; and contents that differ as P allows
    pub spans-same : (n p k : ℕ) → ((i : ℕ) → 8 * p ≤ i → Left n p k i) → (spans n a p ≡ spans n b p) × Contents P k a b (laid_out n a p)
    unfolding spans laid_out
    spans-same zero p k g = (refl, tt)
    spans-same (suc n) p k g = by (declared_entry a p) refl (λ e. spans-same n (e.place + e.size) (suc k))
      where
        undeclared : ((e : Span) → declared_entry a p ≡ given e → ⊥) → (spans (suc n) a p ≡ spans (suc n) b p) × Contents P k a b (laid_out (suc n) a p)
        undeclared f = (
          rw (← (span_same p (λ x l. absurd (f _ (prefixed-given a p x l)))))
              (and_then-same (span_at a p) _ _ (λ e s. absurd (f e (span-declared a p s)))),
          rw (laid_none a n p f) tt,
        )

        by : (x : Answer Span) → declared_entry a p ≡ x
            → ((e : Span) → ((i : ℕ) → 8 * (e.place + e.size) ≤ i → Left n (e.place + e.size) (suc k) i)
            → (spans n a (e.place + e.size) ≡ spans n b (e.place + e.size)) × Contents P (suc k) a b (laid_out n a (e.place + e.size)))
            → (spans (suc n) a p ≡ spans (suc n) b p) × Contents P k a b (laid_out (suc n) a p)
        by (given e) f again =
            let o = entry-onward a p f in
            let next = e.place + e.size in
            let far = end-behind a n next in
            let later : (i : ℕ) → InEntries P (suc k) (laid_out n a next) i → 8 * next ≤ i = λ i x. entries-behind a P n next (suc k) i x in
            let g' : (i : ℕ) → 8 * p ≤ i → (bit_at a i ≡ bit_at b i) ⊎ (InEntries P k (e ∷ laid_out n a next) i ⊎ (8 * entries_end (laid_out n a next) next ≤ i)) =
            rw (laid_cons a n p f) at g in
            let before : Prefixed a → p + 4 ≤ length a → Same a b (8 * p) (8 * (p + 4)) =
            (λ x l i u v. elim (g' i u) [
              | inl y ↦ y
              | inr (inl (inl y)) ↦ absurd (omega (arith, o.behind x, y.0))
              | inr (inl (inr y)) ↦ absurd (omega (arith, o.behind x, later i y))
              | inr (inr y) ↦ absurd (omega (arith, o.behind x))
            ]) in
            let here : (j : ℕ) → j < 8 * e.size → (bit_at a (8 * e.place + j) ≡ bit_at b (8 * e.place + j)) ⊎ P k e j =
            (λ j u. elim (g' (8 * e.place + j) (omega (arith, o.place))) [
              | inl y ↦ inl y
              | inr (inl (inl y)) ↦ let d : 8 * e.place + j - 8 * e.place ≡ j = omega arith in inr (rw d at y.2)
              | inr (inl (inr y)) ↦ absurd (omega (arith, later _ y))
              | inr (inr y) ↦ absurd (omega arith)
            ]) in
            let rest = again e (λ i u. elim (g' i (omega (arith, o.place))) [
              | inl y ↦ inl y
              | inr (inl (inl y)) ↦ absurd (omega (arith, y.1))
              | inr (inl (inr y)) ↦ inr (inl y)
              | inr (inr y) ↦ inr (inr y)
            ]) in (
              rw (← (span_same p before))
                  (and_then-same (span_at a p) _ _ (λ x s.
                  let same : e ≡ x = given_inj (sym f ∙ span-declared a p s) in
                  rw (← same) (rw rest.0))),
              rw (laid_cons a n p f) (here, rest.1),
            )
        by none f again = undeclared (λ e g. let z : ◌≡◌ {A = ℕ} 0 1 = cc in omega arith)
        by (refused m) f again = undeclared (λ e g. refused-given (sym f ∙ g))
