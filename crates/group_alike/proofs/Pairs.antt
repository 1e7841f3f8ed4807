-- Each answer about two entries, from what is found of their fronts.
use mathlib.Core.Path.{◌≡◌, refl, ap, sym, ◌∙◌}
use mathlib.Core.Bool.{Bool, true, false}
use mathlib.Core.List.{List}
use Prim.Native.Nat.{ℕ, ◌<◌, ◌≤◌, zero-le}
use native.Mathlib.Omega.{arith}
use lib.ListN.{length}
use borrow.Author.Tests.{lt-ltb}
use Rattle.base_fields.specs.Answer.{Answer, given, refused, input_limit}
use Rattle.base_fields.proofs.Bits.{Bytes}
use Rattle.base_fields.proofs.Answers.{refused-first, within-short}
use Rattle.group_entries.specs.Layout.{layout_of, decode_as, decode}
use Rattle.group_entries.specs.declared.EntryLayout.{EntryLayout}
use Rattle.group_entries.specs.Same.{same_decoded, is_same}
use Rattle.group_entries.proofs.Same.{told-true, told-false}
use Rattle.group_entries.proofs.Values.{value_of}
use Rattle.group_alike.specs.Alike.{alike}
use Rattle.group_alike.specs.Front.{FrontIs, Agree, Decides, GivesSame, front_size, significant_of, alike_as}
use Rattle.group_alike.proofs.Fronts.{fronted, reach}
use Rattle.group_alike.proofs.Decides.{agree-of-value, value-of-agree}

module _ (t : ℕ) (a b : List ℕ) where
  pub first-long : input_limit < length a → refused 55 ≡ alike t a b
  unfolding alike
  first-long h = simp (lt-ltb _ _ h)

  pub second-long : length a ≤ input_limit → input_limit < length b → refused 55 ≡ alike t a b
  unfolding alike
  second-long h k = sym (within-short a _ h ∙ simp (lt-ltb _ _ k))

  -- below the limit, by the layout of the type
  pub by_layout : length a ≤ input_limit → length b ≤ input_limit → {l : EntryLayout} → l ≡ layout_of t → {x : Answer Bool} → x ≡ alike_as l a b → x ≡ alike t a b
  unfolding alike alike_as decode
  by_layout ha hb p e = e ∙ ap (λ k. alike_as k a b) p ∙ sym (within-short a _ ha ∙ within-short b _ hb)

module _ (l : EntryLayout) (a b : List ℕ) where
  pub decided : {n : ℕ} (r : Bool) → Decides l a b n → GivesSame a b n r → given r ≡ alike_as l a b
  decided true d g = d.same (g.same refl)
  decided false d g = d.different (g.different refl)

  pub first-refused : {n : ℕ} → FrontIs (refused n) l a → refused n ≡ alike_as l a b
  unfolding alike_as
  first-refused e = sym (rw (refused-first (decode_as l a) (λ v. front_size l a) (sym e)) refl)

  module _ {m : ℕ} (x : FrontIs (given m) l a) where
    pub second-refused : {n : ℕ} → FrontIs (refused n) l b → refused n ≡ alike_as l a b
    unfolding alike_as
    second-refused e = sym (rw ((fronted l a x).decodes, refused-first (decode_as l b) (λ v. front_size l b) (sym e)) refl)

    module _ {n : ℕ} (y : FrontIs (given n) l b) where
      both : alike_as l a b ≡ given (is_same (same_decoded (value_of l a) (value_of l b)))
      unfolding alike_as
      both = rw ((fronted l a x).decodes, (fronted l b y).decodes) refl

      pub are-same : Bytes a → Bytes b → m ≡ n → Agree l a b n → given true ≡ alike_as l a b
      are-same ba bb e o =
          let p = fronted l a x in
          let q = fronted l b y in
          let f : n ≡ front_size l a = sym e ∙ p.front in
          let v = value-of-agree l a b ba bb (sym p.front ∙ e ∙ q.front) (rw f at o) in
          sym (both ∙ ap given (told-true (same_decoded _ _) v))

      pub are-different : Bytes a → Bytes b → (m ≡ n → Agree l a b n → ⊥) → given false ≡ alike_as l a b
      are-different ba bb h =
          let p = fronted l a x in
          let q = fronted l b y in
          sym (both ∙ ap given (told-false (same_decoded _ _) (λ v.
          let k = agree-of-value l a b ba bb p.sized q.sized v in
          let f : m ≡ n = p.front ∙ k.0 ∙ sym q.front in
          h f (rw (← p.front, f) at k.1))))

      pub are-told : Bytes a → Bytes b → m ≡ n → (r : Bool) → (r ≡ true → Agree l a b n) → (r ≡ false → Agree l a b n → ⊥) → given r ≡ alike_as l a b
      are-told ba bb e true s d = are-same ba bb e (s refl)
      are-told ba bb e false s d = are-different ba bb (λ f. d refl)

      -- where all bits are read, the bytes decide
      pub decides : Bytes a → Bytes b → m ≡ n → ((x : ℕ) → significant_of l x ≡ x) → Decides l a b n
      decides ba bb e w =
          record {
            first = rw (← e) (reach l a x);
            second = reach l b y;
            same = λ o. are-same ba bb e (λ i h. ap (significant_of l) (o i zero-le (omega arith)));
            different = λ d. are-different ba bb (λ f o. d (λ i h k. sym (w _) ∙ o i (omega arith) ∙ w _));
          }
