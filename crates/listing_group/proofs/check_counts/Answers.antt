-- By the samples that are covered, or by the count of the rows.
use native.Mathlib.Omega.{arith}
use Rattle.std.proofs.lemmas.Result.{err_from_is_err_and}
use Rattle.base_fields.specs.Answer.{Answer}
use Rattle.table_rows.specs.Row.{Table}
use Rattle.table_records.specs.Lent.{table_from}
use Rattle.table_needed.specs.Needed.{unlimited}
use Rattle.listing_group.proofs.Counts.{short-fits, counted-given, counted-refused}
use Rattle.listing_group.proofs.check_counts.Goals as goal
use Rattle.listing_group.proofs.check_counts.Goals.{After-count_rows}

-- what the count is of
abbrev rows : After-count_rows → Answer Table
rows c = let a = c.args in table_from a.table_s.now a.table unlimited

pub returns-then-covered : goal.returns-then-covered
returns-then-covered c =
    short-fits c.args.table_s.now c.args.table c.requires.0 (omega (arith, c.requires.1, c.if-covered.true))

pub returns : goal.returns
returns c = counted-given (rows (goal.at.returns c).After-count_rows) (rw c.in_ok-count_rows.was at c.count_rows.ensures)

pub returns-in_err-count_rows : goal.returns-in_err-count_rows
returns-in_err-count_rows c =
    let out = err_from_is_err_and c.from_residual.result c.from_residual.ensures.1 in
    rw (out.1, out.2) (counted-refused (rows (goal.at.returns-in_err-count_rows c).After-count_rows) (rw c.in_err-count_rows.was at c.count_rows.ensures))
