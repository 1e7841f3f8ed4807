-- A payload within the longest input has few rows or patterns: an sbgp has fewer rows, and a csgp covers fewer samples, than records can be lent.
use mathlib.Core.Path.{◌≡◌, refl, ap}
use mathlib.Core.List.{List, [], ◌∷◌}
use Prim.Native.Nat.{ℕ, zero, suc, ◌+◌, ◌*◌, ◌^◌, ◌≤◌}
use native.Mathlib.Omega.{arith}
use borrow.Author.Tests.{ltb-false}
use lib.Dec.{ltb, eqb}
use lib.ListN.{length}
use lib.Pow.{pow_mono}
use Rattle.base_fields.specs.Answer.{given, input_limit}
use Rattle.base_fields.specs.Number.{bits_at}
use Rattle.base_fields.proofs.Answers.{given_inj, given-first, given-past}
use Rattle.base_fields.proofs.Bits.{bits_below}
use Rattle.table_front.specs.Front.{count_of}
use Rattle.table_front.specs.declared.TableKind.TheVariants.{Sbgp, Csgp}
use Rattle.table_front.proofs.Fronts.{front-given}
use Rattle.table_patterns.specs.Place.{bit_count}
use Rattle.table_rows.specs.Row.{Table}
use Rattle.table_rows.specs.Pattern.{Pattern, covered_by}
use Rattle.table_sbgp.specs.Sbgp.{rows_place, table_in, sbgp}
use Rattle.table_sbgp.proofs.Table.{read_rows-length}
use Rattle.table_csgp_head.specs.Csgp.{Pair, index_width_of, count_width_of, length_width_of, pattern_count_of, stream_place, index_place, read_pairs, read_indices, read_patterns, read_all, csgp}
use Rattle.table_csgp_head.proofs.Widths.{widths}
use Rattle.table_runs.specs.Patterns.{covered_limit}

module _ (s : List ℕ) where
  -- a row takes eight bytes
  pub sbgp-few : (t : Table) → sbgp s ≡ given t → 8 * length t.rows ≤ input_limit
  unfolding sbgp
  sbgp-few t e =
      let front = front-given Sbgp s (table_in s) e in
      let rows = given-past (ltb (length s) (rows_place s + 8 * count_of Sbgp s)) 23 _ front.1 in
      let n : length t.rows ≡ count_of Sbgp s = rw (← (given_inj rows.1)) (read_rows-length (count_of Sbgp s) s (rows_place s)) in
      omega (arith, n, ltb-false (length s) (rows_place s + 8 * count_of Sbgp s) rows.0, front.0.short)

  count_small : (p : ℕ) → bits_at (count_width_of s) s p ≤ 4294967295
  count_small p =
      let m : 2 ^ count_width_of s ≤ 2 ^ 32 = pow_mono (widths s).count.1 in
      omega (arith, bits_below (count_width_of s) s p, m)

  -- the samples of pairs
  unfoldable counted : List Pair → ℕ
  counted [] = 0
  counted (r ∷ rs) = r.sample_count_of + counted rs

  -- a pair takes eight bits at least
  pairs-few : (n p : ℕ) {rs : List Pair} → p ≤ bit_count s → read_pairs n s p ≡ given rs → (p + 8 * n ≤ bit_count s) × (counted rs ≤ n * 4294967295)
  unfolding read_pairs counted
  pairs-few zero p h e = rw (← (given_inj e)) (omega arith, omega arith)
  pairs-few (suc n) p h e =
      let a = given-past (ltb (bit_count s) (p + length_width_of s)) 24 _ e in
      let b = given-past (ltb (bit_count s) (p + length_width_of s + count_width_of s)) 25 _ a.1 in
      let rest = given-first (read_pairs n s (p + length_width_of s + count_width_of s)) _ b.1 in
      let i = pairs-few n (p + length_width_of s + count_width_of s) (omega (arith, ltb-false (bit_count s) (p + length_width_of s + count_width_of s) b.0)) rest.1 in
      rw (← (given_inj rest.2))
      (omega (arith, i.0, (widths s).count.0, (widths s).length.0), omega (arith, i.1, count_small (p + length_width_of s)))

  patterns-covered : (rs : List Pair) (p : ℕ) {ps : List Pattern} → read_patterns rs s p ≡ given ps → covered_by ps ≡ counted rs
  unfolding read_patterns covered_by counted
  patterns-covered [] p e = rw (← (given_inj e)) refl
  patterns-covered (r ∷ rs) p e =
      let a = given-past (eqb r.pattern_length 0) 26 _ e in
      let is = given-first (read_indices r.pattern_length s p) _ a.1 in
      let rest = given-first (read_patterns rs s (p + index_width_of s * r.pattern_length)) _ is.2 in
      rw (← (given_inj rest.2)) (ap (λ (n : ℕ). r.sample_count_of + n) (patterns-covered rs (p + index_width_of s * r.pattern_length) rest.1))

  pub csgp-few : (ps : List Pattern) → csgp s ≡ given ps → covered_by ps ≤ covered_limit
  unfolding csgp
  csgp-few ps e =
      let front = front-given Csgp s (read_all s) e in
      let pairs = given-first (read_pairs (pattern_count_of s) s (stream_place s)) _ front.1 in
      let few = pairs-few (pattern_count_of s) (stream_place s) (omega (arith, front.0.whole)) pairs.1 in
      omega (arith, patterns-covered pairs.0 (index_place s) pairs.2, few.0, few.1, front.0.short)
