-- The search along the patterns of a table, cut behind the wanted frame.
use mathlib.Core.Path.{◌≡◌, refl, sym}
use mathlib.Core.List.{List, [], ◌∷◌}
use mathlib.Core.Option.{Option, none}
use Prim.Native.Nat.{ℕ, ◌+◌, ◌-◌, min}
use native.Mathlib.Omega.{arith}
use lib.ListN.{length}
use Rattle.base_fields.specs.Answer.{Answer, given, refused}
use Rattle.base_fields.proofs.Answers.{given_inj, given-first, refused-first}
use Rattle.table_rows.specs.Pattern.{Pattern}
use Rattle.table_views.specs.Used.{used, used_in, first_refusal, cut}
use Rattle.table_views.specs.Search.{larger, best_from, best_in}
use Rattle.table_views.proofs.Used.{refusal_append}
use Rattle.listing_meanings.specs.Meant.{meaning_in}
use Rattle.use_decode_start.specs.Inner.{distance_in, searched_pattern, searched_on}
use Rattle.use_decode_start.proofs.Bests.{larger-none, larger_assoc, unused-from}

-- a pattern's first n samples
abbrev pub cut_one : ℕ → Pattern → Pattern
cut_one n p = record { indices = p.indices; count = min n p.count }

module _ (t : ℕ) (s : List ℕ) (wanted start left : ℕ) (before : Option ℕ) where
  abbrev refusal : List ℕ → Answer Unit
  refusal = first_refusal (meaning_in t s)

  abbrev best : Pattern → Option ℕ
  best q = best_from (distance_in t s) wanted start q.count (length q.indices) 0 q.indices

  -- one pattern more
  pub search-on : {ps : List Pattern} {p : Pattern} {rest : List Pattern} {b : Option ℕ} → ps ≡ p ∷ rest
      → given b ≡ searched_pattern t s wanted start before (cut_one left p)
      → searched_on t s wanted start before (cut left ps) ≡ searched_on t s wanted (start + min left p.count) b (cut (left - p.count) rest)
  unfolding cut used_in best_in
  search-on {p = p} {rest = rest} e g =
      let q = cut_one left p in
      let behind = cut (left - p.count) rest in
      let first = given-first (refusal (used q)) (λ u. given (larger before (best q))) (sym g) in
      rw (
        e,
        refusal_append (meaning_in t s) (used q) (used_in behind),
        first.1,
        ← given_inj first.2,
        larger_assoc before (best q) (best_in (distance_in t s) wanted (start + min left p.count) behind),
      ) refl

  pub search-refused : {ps : List Pattern} {p : Pattern} {rest : List Pattern} {n : ℕ} → ps ≡ p ∷ rest
      → refused n ≡ searched_pattern t s wanted start before (cut_one left p) → searched_on t s wanted start before (cut left ps) ≡ refused n
  unfolding cut used_in
  search-refused {p = p} {rest = rest} e g =
      let q = cut_one left p in
      let first = refused-first (refusal (used q)) (λ u. larger before (best q)) (sym g) in
      rw (e, refusal_append (meaning_in t s) (used q) (used_in (cut (left - p.count) rest)), first) refl

  -- no pattern is left
  pub search-end : {ps : List Pattern} → ps ≡ [] → searched_on t s wanted start before (cut left ps) ≡ given before
  unfolding cut used_in first_refusal best_in
  search-end e = rw (e, larger-none before) refl

-- no sample is left
none-used : (ps : List Pattern) → used_in (cut 0 ps) ≡ []
unfolding cut used_in used
none-used [] = refl
none-used (p ∷ ps) =
    let z : min 0 p.count ≡ 0 = omega arith in
    let r : 0 - p.count ≡ 0 = omega arith in
    rw (z, r, none-used ps) refl

none-best : (t : ℕ) (s : List ℕ) (wanted start : ℕ) (ps : List Pattern) → best_in (distance_in t s) wanted start (cut 0 ps) ≡ none
unfolding cut best_in
none-best t s wanted start [] = refl
none-best t s wanted start (p ∷ ps) =
    let z : min 0 p.count ≡ 0 = omega arith in
    let r : 0 - p.count ≡ 0 = omega arith in
    rw (z, r, unused-from (distance_in t s) wanted start 0 (length p.indices) p.indices 0 (omega arith), none-best t s wanted (start + 0) ps) refl

pub search-stop : (t : ℕ) (s : List ℕ) (wanted start : ℕ) (before : Option ℕ) (ps : List Pattern) → searched_on t s wanted start before (cut 0 ps) ≡ given before
unfolding first_refusal
search-stop t s wanted start before ps = rw (none-used ps, none-best t s wanted start ps, larger-none before) refl
