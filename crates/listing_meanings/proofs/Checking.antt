-- The first refusal over the used positions of a table's patterns, position by position and pattern by pattern.
use mathlib.Core.Path.{◌≡◌, refl, ap, sym, ◌∙◌}
use mathlib.Core.List.{List, [], ◌∷◌, ◌++◌}
use Prim.Native.Nat.{ℕ, suc, ◌+◌, ◌<◌, min}
use native.Mathlib.Numerals.{add-one}
use native.Mathlib.Decide.{dec_lt}
use native.Mathlib.Omega.{arith}
use lib.ListN.{length, get_or, take, drop, take-append-drop, length-take}
use lib.Seq.{take-suc, drop-cons, take-take, take_all, get_or-take}
use Rattle.base_fields.specs.Answer.{Answer, given, refused, and_then}
use Rattle.table_rows.specs.Pattern.{Pattern}
use Rattle.table_patterns.specs.Place.{pattern_in}
use Rattle.table_patterns.specs.declared.PatternAt.{PatternAt}
use Rattle.table_patterns.proofs.Indices.{indices-length}
use Rattle.table_views.specs.Used.{used, used_in, first_refusal}
use Rattle.table_views.proofs.Used.{refusal_append}
use Rattle.listing_theorem.specs.Samples.{meaning_of}
use Rattle.listing_spec.specs.Table.{entries_of}
use Rattle.listing_meanings.specs.Meant.{meaning_in}

module _ {A : Type 0} (f : ℕ → Answer A) where
  -- the indices before position i passed
  abbrev pub PassedBefore : List ℕ → ℕ → Type 0
  PassedBefore l i = first_refusal f (take i l) ≡ given tt

  pub passed_none : (l : List ℕ) → PassedBefore l 0
  unfolding first_refusal
  passed_none l = refl

  -- the index at position i passes too
  pub passed-more : (l : List ℕ) (i : ℕ) {a : A} → i < length l → PassedBefore l i → f (get_or l i 0) ≡ given a → PassedBefore l (i + 1)
  unfolding first_refusal
  passed-more l i h before here = rw (add-one, take-suc l i 0) (refusal_append f (take i l) (get_or l i 0 ∷ []) ∙ rw (before, here) refl)

  -- or it is refused, and with it any more
  pub refused-here : (l : List ℕ) (i n : ℕ) {code : ℕ} → i < length l → i < n → PassedBefore l i → f (get_or l i 0) ≡ refused code → first_refusal f (take n l) ≡ refused code
  unfolding first_refusal
  refused-here l i n h b before here =
      let m = take n l in
      let inside : i < length m = omega (arith, length-take n l) in
      let at : get_or m i 0 ≡ get_or l i 0 = get_or-take n l i 0 b in
      let front : take i m ≡ take i l = take-take i n l (omega arith) in
      let parts : m ≡ take i l ++ get_or l i 0 ∷ drop (suc i) m =
      sym (take-append-drop i m) ∙ rw (front, drop-cons m i 0 inside, at) refl in
      ap (first_refusal f) parts
      ∙ refusal_append f (take i l) (get_or l i 0 ∷ drop (suc i) m)
      ∙ rw (before, here) refl

  -- one pattern more: its used positions, then those of the rest
  pub pattern_then : {ps : List Pattern} {p : Pattern} {rest : List Pattern} {a : Answer Unit} → ps ≡ p ∷ rest → first_refusal f (used p) ≡ a
      → first_refusal f (used_in ps) ≡ and_then a (λ u. first_refusal f (used_in rest))
  unfolding used_in
  pattern_then {rest = rest} e g = ap (λ (l : List Pattern). first_refusal f (used_in l)) e ∙ refusal_append f (used _) (used_in rest) ∙ rw g refl

  pub no_pattern : {ps : List Pattern} → ps ≡ [] → first_refusal f (used_in ps) ≡ given tt
  unfolding used_in first_refusal
  no_pattern e = rw e refl

-- the positions that used_positions tells are the used ones
pub used-taken : (s : List ℕ) (p : PatternAt) (n : ℕ) → n ≡ min p.length p.count → used (pattern_in s p) ≡ take n (pattern_in s p).indices
unfolding used
used-taken s p n e =
    let l = (pattern_in s p).indices in
    let size : length l ≡ p.length = indices-length p.marks p.width s p.length p.indices in
    elim (dec_lt p.length p.count) [
      | yes h ↦ take_all p.count l (omega arith) ∙ sym (take_all n l (omega arith))
      | no h ↦ let d : p.count ≡ n = omega arith in ap (λ (k : ℕ). take k l) d
    ]

-- with the entries of a payload that was read
pub refusal-in : (t : ℕ) (s : List ℕ) {entries : List (List ℕ)} → entries_of s ≡ given entries → (l : List ℕ) → first_refusal (meaning_in t s) l ≡ first_refusal (meaning_of t entries) l
refusal-in t s g l = ap (λ (x : Answer (List (List ℕ))). first_refusal (λ i. and_then x (λ es. meaning_of t es i)) l) g
