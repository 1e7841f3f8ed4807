use mathlib.Core.Path.{◌≡◌, ap, sym, ◌∙◌}
use mathlib.Core.Bool.{true}
use Prim.Native.Nat.{◌+◌}
use lib.ListN.{length}
use Rattle.base_fields.specs.Answer.{Answer, and_then}
use Rattle.base_fields.specs.Refusal.{number}
use Rattle.base_fields.proofs.Handed.{handed}
use Rattle.atom_tree.specs.Told.{span_of}
use Rattle.atom_path.specs.Path.{present_at, at_level}
use Rattle.atom_path.specs.Told.{level_of}
use Rattle.base_fields.specs.Span.{Span}
use Rattle.atom_path.proofs.Bodies.{searched, atom-fewer, search-done, search-refused, search-child, level-searched}
use Rattle.atom_path.proofs.level.find_in_level.Goals as goal
use Rattle.atom_path.proofs.level.find_in_level.Goals.{At-loop-atom}

-- at the top the level ends with the given bytes
top-whole : (c : At-loop-atom)
    → let a = c.args in a.level.top ≡ true → a.parent.place + a.parent.size ≡ length a.s.now
top-whole c = c.requires.2

-- the end of the search from here on is the level's answer
ended : (c : At-loop-atom) {told : Answer Span}
    → let a = c.args in
    searched a.level.top a.s.now (a.parent.place + a.parent.size) a.level.fourcc (number a.level.missing) c.loop-atom.at c.loop-atom.sought ≡ told
    → and_then told (present_at a.level.top a.s.now) ≡ at_level a.s.now (level_of a.level) (span_of a.parent)
ended c {told} e =
    let a = c.args in
    sym (level-searched a.s.now (level_of a.level) (span_of a.parent)
    ∙ ap (λ (x : Answer Span). and_then x (present_at a.level.top a.s.now)) (c.loop-atom.invariant ∙ e))

pub loop-atom-smaller : goal.loop-atom-smaller
loop-atom-smaller c =
    let a = c.args in
    atom-fewer a.level.top a.s.now (a.parent.place + a.parent.size) (top-whole (goal.at.loop-atom-smaller c).At-loop-atom) c.loop-atom.at
    (sym (rw c.in-Some.is at c.in_ok-atom.ensures))

pub loop-atom-preserved : goal.loop-atom-preserved
loop-atom-preserved c =
    let a = c.args in
    c.loop-atom.invariant
    ∙ search-child a.level.top a.s.now (a.parent.place + a.parent.size) a.level.fourcc (top-whole (goal.at.loop-atom-preserved c).At-loop-atom) (number a.level.missing)
    c.loop-atom.at c.loop-atom.sought c.search_behind-sought.result (sym (rw c.in-Some.is at c.in_ok-atom.ensures))
    (λ rest. c.search_behind-sought.ensures (number a.level.missing) rest)

pub returns : goal.returns
returns c =
    let a = c.args in
    c.found_in.ensures
    ∙ ended (goal.at.returns c).At-loop-atom
    (search-done a.level.top a.s.now (a.parent.place + a.parent.size) a.level.fourcc (top-whole (goal.at.returns c).At-loop-atom) (number a.level.missing)
    c.loop-atom.at c.loop-atom.sought (sym (rw (c.in_ok-atom.was, c.in_default.is) at c.next_atom.ensures)))

pub returns-in_err-atom : goal.returns-in_err-atom
returns-in_err-atom c =
    let a = c.args in
    rw (handed c.from_residual.ensures)
    (ended (goal.at.returns-in_err-atom c).At-loop-atom
    (search-refused a.level.top a.s.now (a.parent.place + a.parent.size) a.level.fourcc (top-whole (goal.at.returns-in_err-atom c).At-loop-atom) (number a.level.missing)
    c.loop-atom.at c.loop-atom.sought (sym c.in_err-atom.ensures)))
