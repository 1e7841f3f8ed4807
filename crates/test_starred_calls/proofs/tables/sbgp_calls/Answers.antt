-- The reader by its contract and the row of the table; the lookups over the rows that it wrote.
use mathlib.Core.Path.{◌∙◌, ap}
use Rattle.base_fields.specs.Answer.{given}
use Rattle.table_rows.specs.Row.{flat, rows_of, lookup, total}
use Rattle.test_starred.proofs.Row.{row}
use Rattle.test_starred_calls.proofs.Answers.{read_as}
use Rattle.test_starred_calls.proofs.tables.sbgp_calls.Goals as goal

pub returns : goal.returns
unfolding flat rows_of
returns c =
    let read = read_as c.parse_sbgp-read.ensures (row 8) in
    let short = read_as c.parse_sbgp-short.ensures (row 9) in (
      read.answer,
      (
        read.rows,
        (
          c.group_index_for_sample-sample_4.ensures ∙ (ap (λ l. lookup l 4) read.rows ∙ ap given (row 10)),
          (
            c.group_index_for_sample-sample_5.ensures ∙ (ap (λ l. lookup l 5) read.rows ∙ ap given (row 11)),
            (c.covered_samples-covered.ensures ∙ (ap total read.rows ∙ ap given (row 12)), (short.answer, (short.rows, tt))),
          ),
        ),
      ),
    )
