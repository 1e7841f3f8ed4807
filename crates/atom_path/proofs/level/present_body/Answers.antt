-- By the two tests, which cannot wrap.
use Rattle.atom_tree.specs.Told.{span_of}
use Rattle.atom_path.proofs.Cases.{body-past, body-there}
use native.Mathlib.Omega.{arith}
use mathlib.Core.Path.{refl}
use Rattle.atom_path.proofs.level.present_body.Goals as goal

pub returns-then-n-body : goal.returns-then-n-body
returns-then-n-body c = let a = c.args in
    rw c.if-top.true (body-past a.s.now (span_of a.body) (omega arith))

pub returns-then-n-body-2 : goal.returns-then-n-body-2
returns-then-n-body-2 c = let a = c.args in
    rw c.if-top.true (body-past a.s.now (span_of a.body) (omega arith))

pub returns-else-n-body-2 : goal.returns-else-n-body-2
returns-else-n-body-2 c = let a = c.args in
    rw c.if-top.true (body-there a.s.now (span_of a.body) (omega arith))

pub returns-else-top : goal.returns-else-top
returns-else-top c = rw c.if-top.false refl
