-- By the rows, where records are lent for them; else by the samples that are covered.
use Rattle.std.proofs.lemmas.Result.{err_from_is_err_and}
use Rattle.base_fields.specs.Answer.{Answer}
use Rattle.table_rows.specs.Row.{Table}
use Rattle.table_records.specs.Lent.{table_from}
use Rattle.table_needed.specs.Needed.{unlimited}
use Rattle.listing_group.proofs.Counts.{covered-given, covered-refused}
use Rattle.listing_group.proofs.count_table.Goals as goal
use Rattle.listing_group.proofs.count_table.Goals.{After-check_counts}

-- the table, where records never run out
module _ (c : After-check_counts) where
  abbrev rows : Answer Table
  rows = table_from c.args.table_s.now c.args.table unlimited

pub returns-in_ok-rows-in-Some : goal.returns-in_ok-rows-in-Some
returns-in_ok-rows-in-Some c =
    rw c.in-Some.is (rw c.in_ok-rows-in-Some.was at c.count_rows.ensures)

pub returns-in_err-rows-in-Some : goal.returns-in_err-rows-in-Some
returns-in_err-rows-in-Some c =
    let out = err_from_is_err_and c.from_residual.result c.from_residual.ensures.1 in
    rw (out.1, out.2, c.in-Some.is) (rw c.in_err-rows-in-Some.was at c.count_rows.ensures)

pub returns-in_ok-check_counts-in-None : goal.returns-in_ok-check_counts-in-None
returns-in_ok-check_counts-in-None c =
    rw c.in-None.is
    (covered-given (rows (goal.at.returns-in_ok-check_counts-in-None c).After-check_counts) _ c.count_samples-covered.ensures.0 (rw c.in_ok-check_counts-in-None.was at c.check_counts.ensures))

pub returns-in_err-check_counts-in-None : goal.returns-in_err-check_counts-in-None
returns-in_err-check_counts-in-None c =
    let out = err_from_is_err_and c.from_residual-in_err-check_counts-in-None.result c.from_residual-in_err-check_counts-in-None.ensures.1 in
    rw (out.1, out.2, c.in-None.is) (covered-refused (rows (goal.at.returns-in_err-check_counts-in-None c).After-check_counts) _ (rw c.in_err-check_counts-in-None.was at c.check_counts.ensures))
