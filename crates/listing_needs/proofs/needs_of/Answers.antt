-- What the check and the measure tell, put together by the laws of `From`.
use mathlib.Core.Path.{◌≡◌, ap, sym, ◌∙◌}
use mathlib.Core.List.{List}
use Prim.Native.Nat.{ℕ}
use native.Mathlib.Omega.{arith}
use Rattle.std.proofs.lemmas.Result.{err_from_is_err_and}
use Rattle.base_fields.specs.Answer.{given}
use Rattle.base_fields.specs.Refusal.{told_value}
use Rattle.base_fields.proofs.Answers.{given_inj}
use Rattle.table_rows.specs.Pattern.{samples_of}
use Rattle.table_runs.specs.Ahead.{all_in, ahead_in}
use Rattle.listing_theorem.specs.Meaning.{Meaning}
use Rattle.listing_theorem.specs.Samples.{meanings}
use Rattle.listing_spec.specs.Table.{entries_of}
use Rattle.listing_meanings.proofs.Found.{entry_bytes, entries-are}
use Rattle.listing_measure.proofs.Meant.{all-mean}
use Rattle.listing_measure.proofs.Checked.{check-passed}
use Rattle.listing_needs.specs.Needs.{Needed}
use Rattle.listing_needs.proofs.From.{check-refuses, gives-needed}
use Rattle.listing_needs.proofs.needs_of.Goals as goal
use Rattle.listing_needs.proofs.needs_of.Goals.{In_ok-check_used}

-- the decoders accept what samples use
module _ (c : In_ok-check_used) where
  read : entries_of c.args.s.now ≡ given (entry_bytes c.args.s.now c.requires.1.entries)
  read = entries-are c.requires.1 0

  passed : (ms : List Meaning) × (meanings c.args.grouping_type (entry_bytes c.args.s.now c.requires.1.entries) (samples_of (ahead_in c.args.table_s.now c.args.table (all_in c.args.table))) ≡ given ms)
  passed = check-passed c.args.grouping_type (entry_bytes c.args.s.now c.requires.1.entries) c.args.table_s.now c.args.table c.requires.0 (sym (ap told_value c.in_ok-check_used.was) ∙ c.check_used.ensures (entry_bytes c.args.s.now c.requires.1.entries) read)

pub returns-in_err-check_used : goal.returns-in_err-check_used
returns-in_err-check_used c =
    let a = c.args in
    let out = err_from_is_err_and c.from_residual.result c.from_residual.ensures.1 in
    rw (out.1, out.2) record {
      gives = λ entries e.
          check-refuses a.grouping_type entries a.table_s.now a.table c.requires.0 a.rows (rw c.in_err-check_used.was at (c.check_used.ensures entries e));
    }

pub measure_listing-measured-requires : goal.measure_listing-measured-requires
measure_listing-measured-requires c =
    let counted = c.count_samples-samples.ensures in
    record {
      whole_in = (c.requires.0, c.requires.1, c.entry_marks-marks.ensures);
      all_mean = (all-mean c.args.grouping_type c.args.s.now (read (goal.at.measure_listing-measured-requires c).In_ok-check_used) (ahead_in c.args.table_s.now c.args.table (all_in c.args.table)) (passed (goal.at.measure_listing-measured-requires c).In_ok-check_used).1, counted.0);
      covered_le_covered_limit = (counted.1, omega arith);
    }

pub returns : goal.returns
returns c =
    let measure = c.measure_listing-measured in
    let rows = c.args.rows in
    let with : ℕ → Needed = λ n. record { rows = rows; bytes = n } in
    record {
      gives = λ others e.
          rw (← given_inj (sym (read (goal.at.returns c).In_ok-check_used) ∙ e))
          (ap (λ (n : ℕ). given (with n)) c.bytes_for.ensures
          ∙ gives-needed c.args.grouping_type (entry_bytes c.args.s.now c.requires.1.entries) c.args.table_s.now c.args.table c.requires.0 rows c.args.s.now (read (goal.at.returns c).In_ok-check_used) (passed (goal.at.returns c).In_ok-check_used).1 measure.result measure.ensures);
    }
