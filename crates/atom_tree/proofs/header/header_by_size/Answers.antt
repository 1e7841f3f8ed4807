-- By the arms of the match on the 32-bit size.
use mathlib.Core.Path.{ap, ◌∙◌}
use mathlib.Core.Option.{none, some}
use native.Mathlib.Omega.{arith}
use Rattle.atom_tree.proofs.Cases.{typed, by-size_open, by-size-extended, by-size-small, by-size-itself, sized-near}
use Rattle.base_fields.specs.Answer.{given}
use Rattle.atom_tree.proofs.header.header_by_size.Goals as goal

pub returns-in-0 : goal.returns-in-0
returns-in-0 c =
    let a = c.args in
    ap given (c.header_of.ensures ∙ typed a.s.now a.at none 8 c.read_u32-fourcc.result c.read_u32-fourcc.ensures.0)
    ∙ by-size_open a.s.now a.at a.size c.in-0.is

pub returns-in-1 : goal.returns-in-1
returns-in-1 c =
    let a = c.args in
    c.extended_header.ensures ∙ by-size-extended a.s.now a.at a.size c.in-1.is

pub returns-in-2-to-7 : goal.returns-in-2-to-7
returns-in-2-to-7 c =
    let a = c.args in
    let other = c.in-2-to-7.in_default-own.rest in
    by-size-small a.s.now a.at a.size other.0.1 other.1 (omega arith)

pub returns-in_default : goal.returns-in_default
returns-in_default c =
    let a = c.args in
    let other = c.in_default.in_default-own.rest in
    ap given (c.header_of-in_default.ensures ∙ typed a.s.now a.at (some a.size) 8 c.read_u32-fourcc.result c.read_u32-fourcc.ensures.0)
    ∙ sized-near a.s.now a.at a.size 8 (omega arith)
    ∙ by-size-itself a.s.now a.at a.size other.0.1 other.1 (omega arith)
