-- By the header reader's answer: the header case goes on, none and refusal return.
use mathlib.Core.Path.{ap, sym, ◌∙◌}
use Rattle.std.proofs.Common.{rules, Ok}
use Rattle.atom_tree.specs.Told.{told_header}
use Rattle.atom_tree.proofs.Headers.{header-sound}
use Rattle.atom_tree.proofs.children.child_at.Goals as goal
use Rattle.atom_tree.proofs.children.child_at.Goals.{in_default-via-in-Ok+in_default, in_default-via-in_default}

pub returns-in-Err : goal.returns-in-Err
returns-in-Err c = search rules

pub returns-in_default-read : goal.returns-in_default-read
returns-in_default-read c = elim c.in_default.branch [ in_default-via-in-Ok+in_default w ↦ search rules | in_default-via-in_default w ↦ absurd (c.in_default-read.not-Err _ w.in_default.is) ]

pub child_of-requires : goal.child_of-requires
child_of-requires c =
    let r = c.in-Ok-Some in
    let known = rw r.is at r.field-0-is in
    header-sound _ _ (sym c.header_within-read.ensures ∙ ap told_header r.is ∙ ap (λ o. told_header (Ok o)) known)

pub returns : goal.returns
returns c = search rules
