-- Each call by its contract, and the row of the table on the same payload and as many records.
use Rattle.table_rows.specs.Row.{flat}
use Rattle.test_starred.proofs.Row.{row}
use Rattle.test_starred_calls.proofs.Answers.{read_as}
use Rattle.test_starred_calls.proofs.tables.csgp_calls.Goals as goal

pub returns : goal.returns
unfolding flat
returns c =
    let period = read_as c.parse_csgp-period.ensures (row 13) in
    let short = read_as c.parse_csgp-short.ensures (row 14) in
    let joined = read_as c.parse_csgp-joined.ensures (row 15) in
    let unused = read_as c.parse_csgp-unused.ensures (row 16) in
    let cut = read_as c.parse_csgp-cut.ensures (row 17) in
    let no_length = read_as c.parse_csgp-no_length.ensures (row 18) in (
      period.answer,
      (
        period.rows,
        (
          short.answer,
          (
            short.rows,
            (
              joined.answer,
              (
                joined.rows,
                (unused.answer, (unused.rows, (cut.answer, (cut.rows, (no_length.answer, (no_length.rows, tt)))))),
              ),
            ),
          ),
        ),
      ),
    )
