-- None, 1, then by the 32-bit size.
use mathlib.Core.Path.{ap, ◌∙◌}
use Rattle.atom_tree.specs.Atom.{by_size}
use Rattle.atom_tree.proofs.Cases.{header-none, header-cut, header-whole}
use Rattle.atom_tree.proofs.header.header_within.Goals as goal

pub returns-then-len-at : goal.returns-then-len-at
returns-then-len-at c = header-none _ _ c.requires c.if-len-at.true

pub returns-then-len-place : goal.returns-then-len-place
returns-then-len-place c = header-cut _ _ c.requires c.if-len-at.false c.if-len-place.true

pub returns : goal.returns
returns c =
    let a = c.args in
    c.header_by_size.ensures ∙ ap (by_size a.s.now a.at) c.read_u32.ensures.0
    ∙ header-whole a.s.now a.at c.requires c.if-len-at.false c.if-len-place.false
