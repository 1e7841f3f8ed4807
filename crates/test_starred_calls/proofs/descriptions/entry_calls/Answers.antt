-- Each decoder by its contract, and the row of the table on the same bytes.
use mathlib.Core.Path.{◌∙◌}
use Rattle.test_starred.proofs.Row.{row}
use Rattle.test_starred_calls.proofs.descriptions.entry_calls.Goals as goal

pub returns : goal.returns
returns c = (
  c.decode_roll.ensures ∙ row 23,
  (
    c.decode_roll-2.ensures ∙ row 24,
    (
      c.decode_rash.ensures ∙ row 25,
      (c.decode_rash-2.ensures ∙ row 26, (c.decode_alst.ensures ∙ row 27, (c.decode_alst-2.ensures ∙ row 28, tt))),
    ),
  ),
)
