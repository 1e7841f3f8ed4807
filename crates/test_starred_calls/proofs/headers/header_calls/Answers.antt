-- Each call by its contract, and the row of the table on the same bytes.
use mathlib.Core.Path.{◌∙◌}
use Rattle.test_starred.proofs.Row.{row}
use Rattle.test_starred_calls.proofs.headers.header_calls.Goals as goal

pub returns : goal.returns
returns c = (
  c.read_atom_header.ensures ∙ row 0,
  (
    c.read_atom_header-2.ensures ∙ row 1,
    (
      c.read_atom_header-3.ensures ∙ row 2,
      (
        c.read_payload.ensures ∙ row 3,
        (
          c.read_atom_header-4.ensures ∙ row 4,
          (
            c.read_atom_header-5.ensures ∙ row 5,
            (c.read_atom_header-6.ensures ∙ row 6, (c.read_atom_header-7.ensures ∙ row 7, tt)),
          ),
        ),
      ),
    ),
  ),
)
