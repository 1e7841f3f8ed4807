-- The numbers that an sgpd refuses with.
use mathlib.Core.List.{List}
use Prim.Native.Nat.{ℕ, zero, suc, ◌+◌, ◌-◌, ◌/◌}
use lib.Dec.{ltb, leb, eqb}
use lib.ListN.{length}
use borrow.Author.Rules.{rules}
use Rattle.base_fields.specs.Answer.{choose}
use Rattle.base_fields.specs.Span.{Span}
use Rattle.base_fields.proofs.Numbered.{RefusesBy, Number, Numbered, by-choose, by-refuse_if, by-none_if, by-within, by-and_then, room-numbered}
use Rattle.group_sgpd.specs.Sgpd.{version, grouping_type_of, default_length_of, entry_count_place, entry_count_of, implicit_length, declared_entry, span_at, spans, sgpd, parse_sgpd, pick, entry_at, all_entries}

module _ (R : ℕ → Type 0) (N : Type 0) (s : List ℕ) where
  declared-by : R 33 × R 34 → (p : ℕ) → RefusesBy R N (declared_entry s p)
  declared-by r p =
      by-choose R N (leb 1 (version s)) _ _
      (by-choose R N (eqb (default_length_of s) 0) _ _ (by-refuse_if R N (ltb (length s) (p + 4)) 33 _ r.0 tt) tt)
      (by-choose R N (eqb (implicit_length (grouping_type_of s)) 0) _ _ (by-refuse_if R N (eqb ((length s - p) / entry_count_of s) 0) 34 _ r.1 tt) tt)

  span-by : R 33 × R 34 × R 35 → (p : ℕ) → RefusesBy R N (span_at s p)
  unfolding span_at
  span-by r p =
      by-and_then R N (declared_entry s p) _ (declared-by (r.0, r.1) p) (λ e f. by-refuse_if R N (ltb (length s) (e.place + e.size)) 35 _ r.2 tt)

  spans-by : R 33 × R 34 × R 35 → (n p : ℕ) → RefusesBy R N (spans n s p)
  unfolding spans
  spans-by r zero p = tt
  spans-by r (suc n) p =
      by-and_then R N (span_at s p) _ (span-by r p)
      (λ e f. by-and_then R N (spans n s (e.place + e.size)) _ (spans-by r n (e.place + e.size)) (λ rest g. tt))

  pub sgpd-by : R 55 × R 30 × R 31 × R 32 × R 33 × R 34 × R 35 → RefusesBy R N (sgpd s)
  unfolding sgpd
  sgpd-by r =
      by-within R N s _ r.0
      (by-refuse_if R N (ltb (length s) 12) 30 _ r.1
      (by-refuse_if R N (ltb (length s) (choose (leb 2 (version s)) 16 12)) 31 _ r.2
      (by-refuse_if R N (ltb (length s) (entry_count_place s + 4)) 32 _ r.3 (spans-by (r.4, r.5, r.6) (entry_count_of s) (entry_count_place s + 4)))))

-- none is 0 or 255
pub pick-numbered : (es : List Span) (i : ℕ) → Numbered (pick es i)
pick-numbered es i = by-none_if Number Unit (eqb i 0) _ tt (by-none_if Number Unit (ltb (length es) i) _ tt tt)

module _ (s : List ℕ) where
  pub sgpd-numbered : Numbered (sgpd s)
  sgpd-numbered = sgpd-by Number Unit s (search rules)

  pub parse_numbered : Numbered (parse_sgpd s)
  parse_numbered = by-and_then Number Unit (sgpd s) _ sgpd-numbered (λ es e. tt)

  pub entry-numbered : (i : ℕ) → Numbered (entry_at s i)
  entry-numbered i = by-and_then Number Unit (sgpd s) _ sgpd-numbered (λ es e. pick-numbered es i)

  pub all-numbered : (run : List ℕ) → Numbered (all_entries s run)
  all-numbered run = by-and_then Number Unit (sgpd s) _ sgpd-numbered (λ es e. room-numbered run es)
