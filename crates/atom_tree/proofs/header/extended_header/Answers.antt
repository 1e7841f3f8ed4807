-- 2, then 4, then 5; else the size makes a header of 16 bytes.
use mathlib.Core.Path.{ap, ◌∙◌}
use mathlib.Core.Option.{some}
use native.Mathlib.Omega.{arith}
use Rattle.base_fields.specs.Answer.{given}
use Rattle.atom_tree.proofs.Cases.{typed, extended-cut, extended-small, extended-sized, sized-far, sized-near}
use Rattle.atom_tree.proofs.header.extended_header.Goals as goal

pub returns-then-s-at : goal.returns-then-s-at
returns-then-s-at c = let a = c.args in extended-cut a.s.now a.at c.if-s-at.true

pub returns-then-size-lt16 : goal.returns-then-size-lt16
returns-then-size-lt16 c =
    let a = c.args in
    extended-small a.s.now a.at c.if-s-at.false c.read_u64-size.result c.read_u64-size.ensures.0 c.if-size-lt16.true

pub returns-then-at-size : goal.returns-then-at-size
returns-then-at-size c =
    let a = c.args in
    let size = c.read_u64-size.result in
    sized-far a.s.now a.at size 16 (omega arith) ∙ extended-sized a.s.now a.at c.if-s-at.false size c.read_u64-size.ensures.0 c.if-size-lt16.false

pub returns : goal.returns
returns c =
    let a = c.args in
    let size = c.read_u64-size.result in
    ap given (c.header_of.ensures ∙ typed a.s.now a.at (some size) 16 a.fourcc c.requires.2)
    ∙ sized-near a.s.now a.at size 16 (omega arith)
    ∙ extended-sized a.s.now a.at c.if-s-at.false size c.read_u64-size.ensures.0 c.if-size-lt16.false
