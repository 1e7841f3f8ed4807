-- What the four calls answer, by the tests that led there.
use Rattle.std.specs.Prelude.{Ok, Err}
use mathlib.Core.Path.{◌≡◌, refl, ap, sym, ◌∙◌}
use Prim.Native.Nat.{ℕ, ◌+◌, ◌*◌, ◌<◌, ◌≤◌}
use native.Mathlib.Omega.{arith}
use borrow.Author.Tests.{lt-ltb, le-ltb, le-leb, lt-leb, eq-eqb, ne_eqb}
use mathlib.Core.List.{List}
use lib.ListN.{length}
use Rattle.base_fields.specs.Answer.{Answer, given, refused, in_front}
use Rattle.base_fields.specs.Refusal.{number}
use Rattle.base_fields.specs.declared.refusal.Refusal.{Refusal}
use Rattle.base_fields.specs.Number.{field_bound}
use Rattle.base_ids.specs.Limits.{local_mark, record_limit}
use Rattle.table_rows.specs.Row.{rows_of, records_in, within_records}
use Rattle.table_rows.proofs.RowAt.{rows-length}
use Rattle.table_rows.specs.Joined.{joined}
use Rattle.table_writing.specs.Remaining.{remaining, largest_count, marked}
use Rattle.table_writing.specs.Bodies.{index_needs, flags_of, sbgp_bytes, csgp_bytes}
use Rattle.table_writing.specs.Write.{quote_sbgp, quote_csgp, offered, write_csgp}
use Rattle.table_writing.proofs.Sbgp.{sbgp-length}
use Rattle.table_writing.proofs.Marks.{low_below}
use Rattle.table_writing.proofs.Csgp.{csgp-length}
use Rattle.table_writers.specs.Tally.{Tallies, marks_by, needs_by, flags_by, length_by}
use Rattle.table_writers.specs.Told.{GivesWritten}
use Rattle.table_writers.specs.declared.tally.Tally.{Tally}

-- what a writer gives
module _ {told : Answer (List ℕ)} (out : List ℕ) where
  pub gives-refused : {n : Refusal} → told ≡ refused (number n) → GivesWritten told out out (Err n)
  gives-refused e = record { answer = rw e refl; output = rw e refl }

  pub gives-bytes : {bytes after : List ℕ} {n : ℕ} → told ≡ given bytes → n ≡ length bytes → after ≡ in_front bytes out → GivesWritten told out after (Ok n)
  gives-bytes e size put = record { answer = rw (e, size) refl; output = rw e put }

-- 55
pub over : {A : Type 0} {n : ℕ} (rest : Answer A) → record_limit < n → within_records n rest ≡ refused 55
over rest h = simp (lt-ltb _ _ h)

pub few : {A : Type 0} {n : ℕ} (rest : Answer A) → n ≤ record_limit → within_records n rest ≡ rest
few rest h = simp (le-ltb _ _ h)

-- 63, then 64
module _ (quoted room : ℕ) (bytes : List ℕ) where
  pub disagrees : (quoted ≡ length bytes → ⊥) → offered quoted room bytes ≡ refused 63
  disagrees d = simp (ne_eqb quoted (length bytes) d)

  pub shorter : quoted ≡ length bytes → room < quoted → offered quoted room bytes ≡ refused 64
  shorter e h = simp (eq-eqb quoted (length bytes) e, lt-ltb room quoted h)

-- an sbgp's length by the records
module _ (l : List ℕ) where
  pub sbgp-size : (type : ℕ) → length (sbgp_bytes type (rows_of l)) ≡ 12 + 8 * records_in l
  sbgp-size type = sbgp-length type (rows_of l) ∙ rw (rows-length l) refl

  pub quoted_sbgp : records_in l ≤ record_limit → quote_sbgp l ≡ given (12 + 8 * records_in l)
  quoted_sbgp h = few _ h ∙ ap given (sbgp-size 0)

-- 28, else the rows that remain
module _ (l : List ℕ) where
  pub remains-over : field_bound ≤ largest_count (joined (rows_of l)) → remaining (rows_of l) ≡ refused 28
  unfolding remaining
  remains-over h = simp (le-leb _ _ h)

  module _ (t : Tally) (o : Tallies (joined (rows_of l)) t) where
    pub remains : remaining (rows_of l) ≡ given (joined (rows_of l))
    unfolding remaining
    remains =
        let small : largest_count (joined (rows_of l)) < field_bound = omega (arith, o.count, o.small) in
        simp (lt-leb field_bound (largest_count (joined (rows_of l))) small)

    pub tally-low : t.low < local_mark
    tally-low = rw o.low (low_below (joined (rows_of l)))

    pub tally-marks : marks_by t ≡ marked (joined (rows_of l))
    tally-marks = rw o.index refl

    pub tally-needs : needs_by t ≡ index_needs (joined (rows_of l))
    tally-needs = rw (o.index, o.low) refl

    pub tally-flags : flags_by t ≡ flags_of (joined (rows_of l))
    tally-flags = rw (o.count, o.index, o.low) refl

    pub tally-length : (type : ℕ) → length_by t ≡ length (csgp_bytes type (joined (rows_of l)))
    tally-length type = rw (o.rows, o.count, o.index, o.low) (sym (csgp-length type (joined (rows_of l))))

    pub quoted_csgp : records_in l ≤ record_limit → quote_csgp l ≡ given (length_by t)
    quoted_csgp h = few _ h ∙ rw remains (ap given (sym (tally-length 0)))

    pub offered-csgp : (type quoted room : ℕ) → records_in l ≤ record_limit →
        write_csgp type l quoted room ≡ offered quoted room (csgp_bytes type (joined (rows_of l)))
    offered-csgp type quoted room h = few _ h ∙ rw remains refl

  pub quoted_over : field_bound ≤ largest_count (joined (rows_of l)) → records_in l ≤ record_limit → quote_csgp l ≡ refused 28
  quoted_over o h = few _ h ∙ rw (remains-over o) refl

  pub written_over : (type quoted room : ℕ) → field_bound ≤ largest_count (joined (rows_of l)) → records_in l ≤ record_limit →
      write_csgp type l quoted room ≡ refused 28
  written_over type quoted room o h = few _ h ∙ rw (remains-over o) refl
