-- Each call by its contract, and the row of the table on the same payload.
use mathlib.Core.Path.{◌∙◌}
use lib.ListN.{replicate}
use Rattle.base_fields.specs.Number.{be_at}
use Rattle.test_starred.specs.Descriptions.{shared}
use Rattle.test_starred.proofs.Row.{row}
use Rattle.test_starred_calls.proofs.Answers.{parsed_as, placed_as}
use Rattle.test_starred_calls.proofs.descriptions.sgpd_calls.Goals as goal

pub returns : goal.returns
unfolding be_at
returns c =
    let three = shared 3 (replicate 9 0) in
    let two = shared 2 (replicate 3 0) in
    let out = shared 2 (replicate 2 0) in (
      c.parse_sgpd.ensures ∙ parsed_as three (row 19),
      (
        c.entry_place.ensures ∙ placed_as three (row 19) 1,
        (
          c.entry_place-2.ensures ∙ row 22,
          (
            c.entry_place-3.ensures ∙ placed_as three (row 19) 3,
            (
              c.entry_place-4.ensures ∙ placed_as three (row 19) 4,
              (
                c.parse_sgpd-2.ensures ∙ parsed_as two (row 20),
                (
                  c.entry_place-5.ensures ∙ placed_as two (row 20) 1,
                  (
                    c.entry_place-6.ensures ∙ placed_as two (row 20) 2,
                    (c.parse_sgpd-3.ensures ∙ parsed_as out (row 21), (c.entry_place-7.ensures ∙ placed_as out (row 21) 1, tt)),
                  ),
                ),
              ),
            ),
          ),
        ),
      ),
    )
