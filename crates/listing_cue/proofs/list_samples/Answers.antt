-- What the check, the measure and the two writers tell, put together by the laws of `Listed`.
use mathlib.Core.Path.{◌≡◌, ap, sym, ◌∙◌}
use mathlib.Core.List.{List, ◌++◌}
use Prim.Native.Nat.{ℕ, ◌*◌, ◌≤◌}
use native.Mathlib.Omega.{arith}
use lib.ListN.{length, take, drop, length-take}
use Rattle.std.proofs.lemmas.Result.{err_from_is_err_and}
use Rattle.base_fields.specs.Answer.{given}
use Rattle.base_fields.specs.Refusal.{told_value}
use Rattle.base_fields.proofs.Answers.{given_inj}
use Rattle.table_rows.specs.Row.{Row, records_in, rows_of, flat}
use Rattle.table_rows.specs.Pattern.{samples_of}
use Rattle.table_runs.specs.Ahead.{all_in, ahead_in}
use Rattle.table_records.proofs.Lent.{lent_fits}
use Rattle.listing_theorem.specs.Meaning.{Meaning}
use Rattle.listing_theorem.specs.Samples.{meanings}
use Rattle.listing_spec.specs.Table.{entries_of}
use Rattle.listing_numbers.proofs.Stores.{stored-front}
use Rattle.listing_meanings.proofs.Found.{entry_bytes, entries-are}
use Rattle.listing_measure.specs.Measured.{listing_of}
use Rattle.listing_measure.proofs.Checked.{check-passed}
use Rattle.listing_cue.specs.Rows.{row_listing}
use Rattle.listing_cue.proofs.Listed.{front-none, gives-refused, check-refused, passed-mean, listed-long, gives-listed, rows-mean, rows-covered, row-listing, rows-front}
use Rattle.listing_cue.proofs.list_samples.Goals as goal
use Rattle.listing_cue.proofs.list_samples.Goals.{In-Some, In_ok-check_used}

-- the decoders accept what samples use
module _ (c : In_ok-check_used) where
  read : entries_of c.args.s.now ≡ given (entry_bytes c.args.s.now c.requires.whole_in.2.entries)
  read = entries-are c.requires.whole_in.2 0

  passed : (ms : List Meaning) × (meanings c.args.grouping_type (entry_bytes c.args.s.now c.requires.whole_in.2.entries) (samples_of (ahead_in c.args.table_s.now c.args.table (all_in c.args.table))) ≡ given ms)
  passed = check-passed c.args.grouping_type (entry_bytes c.args.s.now c.requires.whole_in.2.entries) c.args.table_s.now c.args.table c.requires.whole_in.0 (sym (ap told_value c.in_ok-check_used.was) ∙ c.check_used.ensures (entry_bytes c.args.s.now c.requires.whole_in.2.entries) read)

  -- the caller's table

  fits : length c.requires.rows_value.0.rows ≤ (records_in c.args.rows.now)
  fits = lent_fits c.args.table_s.now c.args.table (records_in c.args.rows.now) c.requires.rows_value.1

  listed : row_listing c.args.grouping_type c.args.s.now c.requires.rows_value.0.rows ≡ listing_of c.args.grouping_type c.args.s.now (ahead_in c.args.table_s.now c.args.table (all_in c.args.table))
  listed = row-listing c.args.grouping_type (entry_bytes c.args.s.now c.requires.whole_in.2.entries) c.args.table_s.now c.args.table c.requires.whole_in.0 c.args.s.now read passed.1 c.requires.whole_in.1 (records_in c.args.rows.now) c.requires.rows_value.1

-- the listing has room
module _ (c : In-Some) where
  measured : (c.in-Some.n ≡ length (listing_of c.args.grouping_type c.args.s.now (ahead_in c.args.table_s.now c.args.table (all_in c.args.table)))) × (c.in-Some.n ≤ length c.args.out.now)
  measured = rw c.in-Some.is at c.measure_listing.ensures

-- the rows that are written, read again
front : (rs : List Row) (count : ℕ) (l new : List ℕ) → length rs ≡ count → new ≡ flat rs ++ drop (2 * length rs) l → rows_of (take (2 * count) new) ≡ rs
front rs count l new h put = ap (λ n. rows_of (take (2 * count) n)) put ∙ rows-front rs _ count h

pub returns-in_err-check_used : goal.returns-in_err-check_used
returns-in_err-check_used c =
    let a = c.args in
    let out = err_from_is_err_and c.from_residual.result c.from_residual.ensures.1 in
    rw (out.1, out.2) record {
      gives = λ x entries p e.
          gives-refused _ _ _
          (check-refused a.grouping_type entries _ a.table c.requires.whole_in.0 x.rows _ _ (rw c.in_err-check_used.was at (c.check_used.ensures entries e)));
    }

pub measure_listing-requires : goal.measure_listing-requires
measure_listing-requires c =
    let a = c.args in
    let entries = entry_bytes a.s.now c.requires.whole_in.2.entries in
    let checked = (goal.at.measure_listing-requires c).In_ok-check_used in
    let counted = c.count_samples-samples.ensures in
    record {
      whole_in = (c.requires.whole_in.0, c.requires.whole_in.2, c.entry_marks-marks.ensures);
      all_mean = (passed-mean a.grouping_type entries a.table_s.now a.table c.requires.whole_in.0 a.s.now (read checked) (passed checked).1, counted.0);
      covered_le_covered_limit = (counted.1, omega arith);
    }

pub returns-in-None : goal.returns-in-None
returns-in-None c =
    let measure = c.measure_listing in
    let empty = front-none measure.new.out c.args.out.now measure.auto.out in
    record {
      gives = λ x others p e.
          rw (empty, ← given_inj (sym (read (goal.at.returns-in-None c).In_ok-check_used) ∙ e))
          (gives-refused _ _ _
          (listed-long c.args.grouping_type (entry_bytes c.args.s.now c.requires.whole_in.2.entries) c.args.table_s.now c.args.table c.requires.whole_in.0 c.args.s.now (read (goal.at.returns-in-None c).In_ok-check_used) (passed (goal.at.returns-in-None c).In_ok-check_used).1 x.rows _ (rw c.in-None.is at measure.ensures)));
    }

pub overflow_mul-end : goal.overflow_mul-end
overflow_mul-end c =
    omega (arith, fits (goal.at.overflow_mul-end c).In_ok-check_used, c.requires.rows_value.2)

pub slice_bounds-write_listing-end : goal.slice_bounds-write_listing-end
slice_bounds-write_listing-end c =
    let fits = lent_fits c.args.table_s.now c.args.table (records_in c.args.rows.now) c.requires.rows_value.1 in
    let inside : 2 * c.args.count ≤ length c.write_rows.new.rows = omega (arith, fits, c.requires.rows_value.2, c.write_rows.auto.rows) in
    omega arith

pub slice_bounds-write_listing-end-2 : goal.slice_bounds-write_listing-end-2
slice_bounds-write_listing-end-2 c =
    let fits = lent_fits c.args.table_s.now c.args.table (records_in c.args.rows.now) c.requires.rows_value.1 in
    let inside : 2 * c.args.count ≤ length c.write_rows.new.rows = omega (arith, fits, c.requires.rows_value.2, c.write_rows.auto.rows) in
    simp length-take (omega arith)

pub write_listing-requires : goal.write_listing-requires
write_listing-requires c =
    let rs = c.requires.rows_value.0.rows in
    let put : c.write_rows.new.rows ≡ flat rs ++ drop (2 * length rs) c.args.rows.now = rw c.requires.rows_value.1 at c.write_rows.ensures in
    let again = front rs c.args.count c.args.rows.now c.write_rows.new.rows c.requires.rows_value.2 put in
    let a = c.args in
    let entries = entry_bytes a.s.now c.requires.whole_in.2.entries in
    let checked = (goal.at.write_listing-requires c).In_ok-check_used in
    let counted = c.count_samples-samples.ensures in
    let long = measured (goal.at.write_listing-requires c).In-Some in
    let lent = c.requires.rows_value.1 in
    rw again record {
      read_whole = (
        c.requires.whole_in.2,
        c.entry_marks-marks.ensures,
        rows-mean a.grouping_type entries a.table_s.now a.table c.requires.whole_in.0 a.s.now (read checked) (passed checked).1 c.requires.whole_in.1 (records_in a.rows.now) lent,
      );
      samples_value = (
        counted.0 ∙ rows-covered a.grouping_type entries a.table_s.now a.table c.requires.whole_in.0 a.s.now (read checked) (passed checked).1 c.requires.whole_in.1 (records_in a.rows.now) lent,
        counted.1,
        rw (listed checked) (omega (arith, long.0, long.1)),
      );
    }

pub returns : goal.returns
returns c =
    let rs = c.requires.rows_value.0.rows in
    let put : c.write_rows.new.rows ≡ flat rs ++ drop (2 * length rs) c.args.rows.now = rw c.requires.rows_value.1 at c.write_rows.ensures in
    let again = front rs c.args.count c.args.rows.now c.write_rows.new.rows c.requires.rows_value.2 put in
    let long = measured (goal.at.returns c).In-Some in
    let measure = c.measure_listing in
    let empty = front-none measure.new.out c.args.out.now measure.auto.out in
    let stores = rw (again, listed (goal.at.returns c).In_ok-check_used, empty) at c.write_listing.ensures.output in
    let output = stores ∙ stored-front _ c.args.out.now (omega (arith, long.0, long.1)) in
    record {
      gives = λ y others p e.
          rw (← given_inj (sym c.requires.rows_value.1 ∙ p), ← given_inj (sym (read (goal.at.returns c).In_ok-check_used) ∙ e))
          (gives-listed c.args.grouping_type (entry_bytes c.args.s.now c.requires.whole_in.2.entries) c.args.table_s.now c.args.table c.requires.whole_in.0 c.args.s.now (read (goal.at.returns c).In_ok-check_used) (passed (goal.at.returns c).In_ok-check_used).1 c.requires.rows_value.0 c.args.rows.now _ c.args.out.now _ _ _ long.0 long.1 c.requires.rows_value.2 put output);
    }
