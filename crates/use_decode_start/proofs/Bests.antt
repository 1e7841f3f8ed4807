-- The search over positions, step by step.
use mathlib.Core.Path.{◌≡◌, refl, ap}
use mathlib.Core.List.{List, [], ◌∷◌}
use mathlib.Core.Option.{Option, none, some, bind}
use Prim.Native.Nat.{ℕ, zero, suc, ◌+◌, ◌-◌, ◌*◌, ◌/◌, ◌≤◌, ◌<◌, min, max}
use native.Mathlib.Numerals.{add-one}
use native.Mathlib.Decide.{dec_lt}
use native.Mathlib.Omega.{arith}
use borrow.Author.Tests.{lt-ltb, le-ltb}
use lib.IntN.{ℤ, pos, negsuc}
use lib.ListN.{length, get_or, drop, drop_of_length-le}
use lib.Seq.{drop-cons}
use Rattle.base_fields.specs.Answer.{Answer, given}
use Rattle.table_views.specs.Search.{begin, larger, last_below, limit, best_at, best_from}
use Rattle.listing_meanings.proofs.Checking.{PassedBefore, passed-more}
use Rattle.use_decode_start.specs.Inner.{told_latest, begun_before}

pub larger-none : (a : Option ℕ) → larger a none ≡ a
larger-none none = refl
larger-none (some a) = refl

pub larger_assoc : (a b c : Option ℕ) → larger (larger a b) c ≡ larger a (larger b c)
larger_assoc none b c = refl
larger_assoc (some a) none c = refl
larger_assoc (some a) (some b) none = refl
larger_assoc (some a) (some b) (some c) = let e : max (max a b) c ≡ max a (max b c) = omega arith in ap {B = Option ℕ} some e

pub larger-told : (a b : ℕ) → told_latest (max a b) ≡ larger (told_latest a) (told_latest b)
larger-told zero b = let e : max 0 b ≡ b = omega arith in ap told_latest e
larger-told (suc a) zero = let e : max (suc a) 0 ≡ suc a = omega arith in ap told_latest e
larger-told (suc a) (suc b) = let e : max (suc a) (suc b) ≡ suc (max a b) = omega arith in ap told_latest e

module _ (limit start count len position : ℕ) where
  pub last_none : min count (limit - start) ≤ position → last_below limit start count len position ≡ none
  unfolding last_below
  last_none h = rw (le-ltb position (min count (limit - start)) h) refl

  pub last_some : position < min count (limit - start)
      → last_below limit start count len position ≡ some (start + (position + (min count (limit - start) - 1 - position) / len * len))
  unfolding last_below
  last_some h = rw (lt-ltb position (min count (limit - start)) h) refl

-- where a member with a negative distance begins
pub begun : (a n : ℕ) → told_latest (a - suc n) ≡ begun_before (told_latest a) n
unfolding bind begin
begun zero n = let e : 0 - suc n ≡ 0 = omega arith in rw e refl
begun (suc k) n =
    elim (dec_lt k (suc n)) [
      | yes b ↦ let e : suc k - suc n ≡ 0 = omega arith in rw (lt-ltb k (suc n) b, e) refl
      | no b ↦ let e : suc k - suc n ≡ suc (k - suc n) = omega arith in rw (le-ltb k (suc n) (omega arith), e) refl
    ]

-- by the distance
module _ (wanted start count len position : ℕ) where
  pub best-ahead : (n : ℕ) → last_below (suc wanted - n) start count len position ≡ best_at wanted start count len position (some (pos n))
  unfolding best_at limit begin bind
  best-ahead n = by (last_below (suc wanted - n) start count len position)
    where
      by : (o : Option ℕ) → o ≡ bind o (λ s. some s)
      by none = refl
      by (some k) = refl

  pub best-behind : (n : ℕ) → begun_before (last_below (suc wanted) start count len position) n ≡ best_at wanted start count len position (some (negsuc n))
  unfolding best_at limit
  best-behind n = refl

  -- a position that no sample uses
  pub unused : count ≤ position → (o : Option ℤ) → best_at wanted start count len position o ≡ none
  unfolding best_at bind
  unused h none = refl
  unused h (some d) = rw (last_none (limit wanted d) start count len position (omega arith)) refl

module _ (dist : ℕ → Option ℤ) (wanted start count len : ℕ) where
  pub unused-from : (is : List ℕ) (position : ℕ) → count ≤ position → best_from dist wanted start count len position is ≡ none
  unfolding best_from
  unused-from [] position h = refl
  unused-from (i ∷ is) position h = rw (unused wanted start count len position h (dist i), unused-from is (suc position) (omega arith)) refl

  -- the positions from i on
  abbrev pub best_behind : List ℕ → ℕ → Option ℕ
  best_behind l i = best_from dist wanted start count len i (drop i l)

  pub best-step : (l : List ℕ) (i : ℕ) → i < length l
      → best_behind l i ≡ larger (best_at wanted start count len i (dist (get_or l i 0))) (best_behind l (i + 1))
  unfolding best_from
  best-step l i h = rw (add-one, drop-cons l i 0 h) refl

  pub best-end : (l : List ℕ) (i : ℕ) → min (length l) count ≤ i → best_behind l i ≡ none
  unfolding best_from
  best-end l i h =
      elim (dec_lt i count) [
        | yes b ↦ let e : drop i l ≡ [] = drop_of_length-le l {i = i} (omega arith) in rw e refl
        | no b ↦ unused-from (drop i l) i (omega arith)
      ]

-- the used ones among the indices before position i passed; so does the one at position i, if it is used
pub passed-used : {A : Type 0} (f : ℕ → Answer A) (l : List ℕ) (count i : ℕ) → i < length l → PassedBefore f l (min i count)
    → (i < count → (a : A) × (f (get_or l i 0) ≡ given a)) → PassedBefore f l (min (i + 1) count)
passed-used f l count i h before here =
    elim (dec_lt i count) [
      | yes b ↦
          let e : min i count ≡ i = omega arith in
          let next : min (i + 1) count ≡ i + 1 = omega arith in
          rw next (passed-more f l i h (rw e at before) (here b).1)
      | no b ↦ let same : min (i + 1) count ≡ min i count = omega arith in rw same before
    ]
