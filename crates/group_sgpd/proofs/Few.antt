-- An sgpd's payload has no more entries than bytes: each takes one at least, or a length before it.
use mathlib.Core.Path.{◌≡◌, ap}
use mathlib.Core.List.{List, ◌∷◌}
use Prim.Native.Nat.{ℕ, zero, suc, ◌+◌, ◌-◌, ◌/◌, ◌≤◌, ◌<◌}
use native.Mathlib.Omega.{arith}
use borrow.Author.Tests.{ltb-false, eqb-false}
use lib.Dec.{ltb, leb, eqb}
use lib.ListN.{length}
use Rattle.base_fields.specs.Answer.{given, input_limit}
use Rattle.base_fields.specs.Span.{Span}
use Rattle.base_fields.proofs.Answers.{Holds, holds-refuse_if, holds-choose, holds-given, given_inj, given-first, given-past}
use Rattle.group_sgpd.specs.Sgpd.{version, grouping_type_of, default_length_of, entry_count_place, entry_count_of, implicit_length, declared_entry, span_at, spans, sgpd}
use Rattle.group_sgpd.proofs.Heads.{sgpd-given}

module _ (s : List ℕ) where
  -- an entry ends behind its place
  abbrev Takes : ℕ → Span → Type 0
  Takes p e = p < e.place + e.size

  declared-takes : (p : ℕ) → Holds (Takes p) (declared_entry s p)
  declared-takes p =
      let P = Takes p in
      holds-choose P (leb 1 (version s)) _ _
      (λ x. holds-choose P (eqb (default_length_of s) 0) _ _
      (λ y. holds-refuse_if P (ltb (length s) (p + 4)) 33 _ (λ _. omega arith))
      (λ y. omega (arith, eqb-false (default_length_of s) 0 y)))
      (λ x. holds-choose P (eqb (implicit_length (grouping_type_of s)) 0) _ _
      (λ y. holds-refuse_if P (eqb ((length s - p) / entry_count_of s) 0) 34 _ (λ z. omega (arith, eqb-false ((length s - p) / entry_count_of s) 0 z)))
      (λ y. omega (arith, eqb-false (implicit_length (grouping_type_of s)) 0 y)))

  spans-few : (n p : ℕ) {es : List Span} → spans n s p ≡ given es → length es ≤ length s - p
  unfolding spans span_at
  spans-few zero p g = rw (← (given_inj g)) (omega arith)
  spans-few (suc n) p g =
      let one = given-first (span_at s p) _ g in
      let e = one.0 in
      let first = given-first (declared_entry s p) _ one.1 in
      let whole = given-past (ltb (length s) (first.0.place + first.0.size)) 35 _ first.2 in
      let same : first.0 ≡ e = given_inj whole.1 in
      let takes = holds-given (Takes p) _ (declared-takes p) first.1 in
      let ends : first.0.place + first.0.size ≡ e.place + e.size = ap (λ (x : Span). x.place + x.size) same in
      let more = given-first (spans n s (e.place + e.size)) _ one.2 in
      let l : length (e ∷ more.0) ≤ length s - p =
      omega (arith, ltb-false (length s) (first.0.place + first.0.size) whole.0, spans-few n (e.place + e.size) more.1) in
      rw (← (given_inj more.2)) l

  pub entries-few : {es : List Span} → sgpd s ≡ given es → length es ≤ length s
  entries-few g = omega (arith, spans-few (entry_count_of s) (entry_count_place s + 4) (sgpd-given s g))

  -- so there are at most 67,108,864
  pub entries-limit : {es : List Span} → sgpd s ≡ given es → length es ≤ input_limit
  unfolding sgpd
  entries-limit g =
      let short = given-past (ltb input_limit (length s)) 55 _ g in
      omega (arith, entries-few g, ltb-false input_limit (length s) short.0)
