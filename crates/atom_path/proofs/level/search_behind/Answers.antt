-- By the search so far and the atom's type.
use mathlib.Core.Path.{refl}
use Rattle.atom_tree.specs.Told.{child_of}
use Rattle.atom_path.proofs.Cases.{behind-other, behind_match, behind-passed}
use Rattle.atom_path.proofs.level.search_behind.Goals as goal

pub returns-then-atom-fourcc : goal.returns-then-atom-fourcc
returns-then-atom-fourcc c = let a = c.args in
    λ missing rest. rw c.in-Ahead.is (behind-other (child_of a.atom) a.fourcc missing rest _ c.if-atom-fourcc.true)

pub returns-then-n-eq0 : goal.returns-then-n-eq0
returns-then-n-eq0 c = let a = c.args in
    λ missing rest. rw c.in-Ahead.is
    (behind_match (child_of a.atom) a.fourcc missing rest c.if-atom-fourcc.false c.if-n-eq0.true c.body_of.ensures)

pub returns-in-Found : goal.returns-in-Found
returns-in-Found c = λ missing rest. rw c.in-Found.is refl

pub returns-else-n-eq0 : goal.returns-else-n-eq0
returns-else-n-eq0 c = let a = c.args in
    λ missing rest. rw c.in-Ahead.is
    (behind-passed (child_of a.atom) a.fourcc missing rest _ c.if-atom-fourcc.false c.if-n-eq0.false)
