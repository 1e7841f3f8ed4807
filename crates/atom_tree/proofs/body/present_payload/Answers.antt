use borrow.Author.Tests.{lt-ltb, le-ltb}
use Rattle.atom_tree.proofs.body.present_payload.Goals as goal

pub returns-then-size-gt-MAX_INMEMORY_ATOM_BODY : goal.returns-then-size-gt-MAX_INMEMORY_ATOM_BODY
returns-then-size-gt-MAX_INMEMORY_ATOM_BODY c = simp (lt-ltb _ _ c.if-size-gt-MAX_INMEMORY_ATOM_BODY.true)

pub returns-then-s-place : goal.returns-then-s-place
returns-then-s-place c = simp (le-ltb _ _ c.if-size-gt-MAX_INMEMORY_ATOM_BODY.false, lt-ltb _ _ c.if-s-place.true)

pub returns : goal.returns
returns c = simp (le-ltb _ _ c.if-size-gt-MAX_INMEMORY_ATOM_BODY.false, le-ltb _ _ c.if-s-place.false)
