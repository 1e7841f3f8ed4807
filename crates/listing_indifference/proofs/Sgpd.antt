-- An sgpd of the named type that differs in listed bits only: the same spans, or the same refusal; and the contents differ as they may.
use mathlib.Core.Path.{◌≡◌, refl}
use mathlib.Core.Logic.{◌⊎◌, inl, inr}
use mathlib.Core.Bool.{Bool, true, false}
use mathlib.Core.List.{List, [], ◌∷◌, Memᴰ}
use Prim.Native.Nat.{ℕ, suc, ◌*◌, ◌<◌, ◌≤◌}
use native.Mathlib.Omega.{arith}
use borrow.Author.Rules.{rules}
use lib.Dec.{eqb}
use Rattle.base_fields.specs.Answer.{given, choose}
use Rattle.base_fields.specs.Number.{be_at}
use Rattle.base_fields.specs.Span.{Span, bytes_at}
use Rattle.group_sgpd.specs.Sgpd.{version, entry_count_place, entry_count_of, spans, sgpd}
use Rattle.group_sgpd.proofs.Heads.{sgpd-given}
use Rattle.listing_indifference.specs.Bits.{Differ}
use Rattle.listing_indifference.specs.Places as places
use Rattle.listing_indifference.specs.Places.{EntryListed, InEntries, first_place, entries_laid, entries_end, SgpdListed}
use Rattle.listing_indifference.proofs.Differ.{differ_be}
use Rattle.listing_indifference.proofs.Spans.{end-behind, entries-behind, laid-are, SameHead, Contents, spans-same}

in_map : (P Q : ℕ → Span → ℕ → Type 0) → ((k : ℕ) (e : Span) (j : ℕ) → P k e j → Q k e j) → (k : ℕ) (es : List Span) (i : ℕ)
    → InEntries P k es i → InEntries Q k es i
in_map P Q f k [] i x = elim x [ ]
in_map P Q f k (e ∷ es) i (inl h) = inl (h.0, h.1, f k e _ h.2)
in_map P Q f k (e ∷ es) i (inr h) = inr (in_map P Q f (suc k) es i h)

-- bit j of the contents of entry k may differ
abbrev pub EntryMay : ℕ → List ℕ → List ℕ → ℕ → Span → ℕ → Type 0
EntryMay t used a k e j = (Memᴰ k used → ⊥) ⊎ EntryListed t (bytes_at a e) j

count-behind : (x y : Bool) → 8 ≤ choose x 8 (choose y 12 16)
count-behind true y = omega arith
count-behind false true = omega arith
count-behind false false = omega arith

module _ (t : ℕ) (used a : List ℕ) where
  at_first : 12 ≤ first_place a
  at_first = omega (arith, count-behind (eqb (version a) 0) (eqb (version a) 1))

  in-behind : (Q : ℕ → Span → ℕ → Type 0) (i : ℕ) → InEntries Q 1 (entries_laid a) i → 8 * first_place a ≤ i
  in-behind Q i h = entries-behind a Q (entry_count_of a) (first_place a) 1 i h

  -- where the entries of a payload that is read whole end
  end_is : {es : List Span} → sgpd a ≡ given es → entries_end (entries_laid a) (first_place a) ≡ entries_end es (first_place a)
  end_is e = rw (laid-are a (entry_count_of a) (first_place a) (sgpd-given a e))

  -- in front of the entries only the flags are listed, and what stands behind the type where that is another
  pub head-kept : (k : ℕ) → k < 8 * first_place a → (8 ≤ k → 32 ≤ k) → ((be_at 4 a 4 ≡ t → ⊥) → k < 64) → SgpdListed t used a k → ⊥
  head-kept k l m o (places.flags u v) = omega (arith, m u)
  head-kept k l m o (places.unused_entry u) = let b : 8 * first_place a ≤ k = search (rules, in-behind) in omega arith
  head-kept k l m o (places.ignored u) = let b : 8 * first_place a ≤ k = search (rules, in-behind) in omega arith
  head-kept k l m o (places.after_entries e u) = omega (arith, end_is e, end-behind a (entry_count_of a) (first_place a))
  head-kept k l m o (places.other_type n u) = omega (arith, o n)

  -- the grouping type is never listed
  pub type-kept : (k : ℕ) → 32 ≤ k → k < 64 → SgpdListed t used a k → ⊥
  type-kept k l m z = let f = at_first in head-kept k (omega arith) (λ _. l) (λ _. m) z

module _ {t : ℕ} {used a b : List ℕ} (named : be_at 4 a 4 ≡ t) (d : Differ (SgpdListed t used a) a b) where
  kept : (k : ℕ) → k < 8 * first_place a → (8 ≤ k → 32 ≤ k) → SgpdListed t used a k → ⊥
  kept k l m z = head-kept t used a k l m (λ n. absurd (n named)) z

  same_head : SameHead a b
  same_head =
      let f = at_first t used a in
      record {
        first = d.first;
        second = d.second;
        long = d.long;
        version = differ_be d 1 0 (λ k l m. kept k (omega arith) (λ u. absurd (omega arith)));
        type = differ_be d 4 4 (λ k l m. kept k (omega arith) (λ u. omega arith));
        default = differ_be d 4 8 (λ k l m. kept k (omega arith) (λ u. omega arith));
        count = differ_be d 4 (entry_count_place a) (λ k l m. kept k (omega arith) (λ u. omega (arith, f)));
      }

  -- from the first entry on
  contents-kept : (i : ℕ) → 8 * first_place a ≤ i → SgpdListed t used a i
      → InEntries (EntryMay t used a) 1 (entries_laid a) i ⊎ (8 * entries_end (entries_laid a) (first_place a) ≤ i)
  contents-kept i l (places.flags u v) = absurd (omega (arith, at_first t used a))
  contents-kept i l (places.unused_entry u) = inl (in_map _ (EntryMay t used a) (λ k e j x. inl x) 1 (entries_laid a) i u)
  contents-kept i l (places.ignored u) = inl (in_map _ (EntryMay t used a) (λ k e j x. inr x) 1 (entries_laid a) i u)
  contents-kept i l (places.after_entries e u) = inr (omega (arith, end_is t used a e))
  contents-kept i l (places.other_type n u) = absurd (n named)

  whole : (spans (entry_count_of a) a (first_place a) ≡ spans (entry_count_of a) b (first_place a)) × Contents (EntryMay t used a) 1 a b (entries_laid a)
  whole =
      spans-same same_head (EntryMay t used a) (entry_count_of a) (first_place a) 1
      (λ i l. elim (d.bits i) [ inl x ↦ inl x | inr x ↦ inr (contents-kept i l x) ])

  pub sgpd-same : sgpd a ≡ sgpd b
  unfolding sgpd
  sgpd-same = let h = same_head in rw (← h.long, ← h.version, ← h.count, whole.0) refl

  pub sgpd-contents : {es : List Span} → sgpd a ≡ given es → Contents (EntryMay t used a) 1 a b es
  sgpd-contents g = rw (laid-are a (entry_count_of a) (first_place a) (sgpd-given a g)) at whole.1
