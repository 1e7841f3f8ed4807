-- The call by its contract, and the row of the table on the same body, two records and twelve bytes of output.
use Rattle.table_rows.specs.Row.{flat}
use Rattle.test_starred.proofs.Row.{row}
use Rattle.test_starred_calls.proofs.Answers.{listed_as}
use Rattle.test_starred_calls.proofs.listing.listing_call.Goals as goal

pub returns : goal.returns
unfolding flat
returns c =
    let listed = listed_as c.cue_listing-told.ensures (row 29) in
    (listed.answer, (listed.rows, (listed.output, tt)))
