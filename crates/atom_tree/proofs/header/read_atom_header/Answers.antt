-- 55, none, 1, then by the 32-bit size.
use mathlib.Core.Path.{ap, ◌∙◌}
use Rattle.atom_tree.specs.Atom.{by_size}
use Rattle.atom_tree.proofs.Cases.{header-long, header-none, header-cut, header-whole}
use Rattle.atom_tree.proofs.header.read_atom_header.Goals as goal

pub returns-then-n-gt-INPUT_LIMIT : goal.returns-then-n-gt-INPUT_LIMIT
returns-then-n-gt-INPUT_LIMIT c = header-long _ _ c.if-n-gt-INPUT_LIMIT.true

pub returns-then-n-at : goal.returns-then-n-at
returns-then-n-at c = header-none _ _ c.if-n-gt-INPUT_LIMIT.false c.if-n-at.true

pub returns-then-n-place : goal.returns-then-n-place
returns-then-n-place c = header-cut _ _ c.if-n-gt-INPUT_LIMIT.false c.if-n-at.false c.if-n-place.true

pub returns : goal.returns
returns c =
    let a = c.args in
    c.header_by_size.ensures ∙ ap (by_size a.s.now a.at) c.read_u32.ensures.0
    ∙ header-whole a.s.now a.at c.if-n-gt-INPUT_LIMIT.false c.if-n-at.false c.if-n-place.false
