-- By the header reader's answer; a sound header's size covers the header, so the difference is there.
use mathlib.Core.Path.{ap, sym, ◌∙◌}
use Rattle.std.proofs.Common.{rules, Ok}
use Rattle.atom_tree.specs.Atom.{declared_at}
use Rattle.atom_tree.specs.Told.{told_header}
use Rattle.atom_tree.proofs.Headers.{header-sound}
use Rattle.atom_tree.proofs.body.declared_payload.Goals as goal
use Rattle.atom_tree.proofs.body.declared_payload.Goals.{in_default-via-in-Ok+in_default, in_default-via-in_default}

pub returns-in-Err : goal.returns-in-Err
unfolding declared_at
returns-in-Err c = search rules

pub returns-in_default-read : goal.returns-in_default-read
unfolding declared_at
returns-in_default-read c = elim c.in_default.branch [ in_default-via-in-Ok+in_default w ↦ search rules | in_default-via-in_default w ↦ absurd (c.in_default-read.not-Err _ w.in_default.is) ]

pub overflow_sub-result : goal.overflow_sub-result
overflow_sub-result c =
    let known = rw c.in-Ok-Some.is at c.in-Ok-Some.field-0-is in
    let k = header-sound _ _ (sym c.read_atom_header-read.ensures ∙ ap told_header c.in-Ok-Some.is ∙ ap (λ h. told_header (Ok h)) known) in
    (rw c.in-Some.is at k.ends).0

pub returns-in-Some : goal.returns-in-Some
unfolding declared_at
returns-in-Some c = search rules

pub returns-in-None : goal.returns-in-None
unfolding declared_at
returns-in-None c = search rules
