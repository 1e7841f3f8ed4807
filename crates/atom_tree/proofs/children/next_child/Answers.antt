-- 55, then done at or past a known end; else the child at the place.
use mathlib.Core.Path.{sym, ◌∙◌}
use Rattle.atom_tree.specs.Told.{parent_end}
use Rattle.atom_tree.proofs.Cases.{child-long, child-done, child-before}
use Rattle.atom_tree.proofs.children.next_child.Goals as goal

pub returns-then-s-gt-INPUT_LIMIT : goal.returns-then-s-gt-INPUT_LIMIT
returns-then-s-gt-INPUT_LIMIT c = let a = c.args in child-long a.s.now a.at (parent_end a.end) c.if-s-gt-INPUT_LIMIT.true

pub returns-then-past_end : goal.returns-then-past_end
returns-then-past_end c =
    let a = c.args in
    child-done a.s.now a.at (parent_end a.end) c.if-s-gt-INPUT_LIMIT.false (sym c.past_end.ensures ∙ c.if-past_end.true)

pub returns : goal.returns
returns c =
    let a = c.args in
    c.child_at.ensures ∙ child-before a.s.now a.at (parent_end a.end) c.if-s-gt-INPUT_LIMIT.false (sym c.past_end.ensures ∙ c.if-past_end.false)
