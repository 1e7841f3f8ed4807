use mathlib.Core.Path.{◌≡◌, refl, sym, ◌∙◌}
use mathlib.Core.Option.{some}
use lib.ListN.{length}
use Rattle.base_fields.specs.Answer.{Answer, given, and_then}
use Rattle.base_fields.proofs.Handed.{handed}
use Rattle.atom_tree.specs.Atom.{child_at}
use Rattle.atom_tree.specs.Told.{child_of}
use Rattle.listing_spec.specs.Walk.{Taken, walk_from, found, sources}
use Rattle.listing_spec.proofs.Walk.{fewer, walk-done, walk_refused, walk-child, walk-visit-refused}
use Rattle.listing_walk.specs.Seen.{taken_of}
use Rattle.listing_walk.proofs.Steps.{child-ends, sources-long, sources-short}
use Rattle.listing_walk.proofs.find_sources.Goals as goal
use Rattle.listing_walk.proofs.find_sources.Goals.{At-loop-child, In-Some}

-- the child at the walk's place
child : (c : In-Some)
    → let s = c.args.s.now in child_at s c.loop-child.at (some (length s)) ≡ given (child_of c.in-Some.child)
child c = sym (rw c.in-Some.is at c.in_ok-child.ensures)

-- the end of the walk from here on is the end of the whole
ended : (c : At-loop-child) {told : Answer Taken}
    → let a = c.args in walk_from a.s.now a.grouping_type c.loop-child.at (taken_of c.loop-child.seen) ≡ told
    → and_then told found ≡ sources a.s.now a.grouping_type
ended c e = let a = c.args in
    rw (sources-short a.s.now a.grouping_type c.if-s-gt-INPUT_LIMIT.false, c.loop-child.invariant, e) refl

pub returns-then-s-gt-INPUT_LIMIT : goal.returns-then-s-gt-INPUT_LIMIT
returns-then-s-gt-INPUT_LIMIT c = let a = c.args in sources-long a.s.now a.grouping_type c.if-s-gt-INPUT_LIMIT.true

pub visit-requires : goal.visit-requires
visit-requires c = child-ends _ _ (child (goal.at.visit-requires c).In-Some)

pub loop-child-smaller : goal.loop-child-smaller
loop-child-smaller c = fewer _ c.args.grouping_type _ (child (goal.at.loop-child-smaller c).In-Some)

pub loop-child-preserved : goal.loop-child-preserved
loop-child-preserved c =
    c.loop-child.invariant ∙ walk-child _ _ _ _ (child (goal.at.loop-child-preserved c).In-Some) (sym c.in_ok-seen.ensures)

pub returns-in_err-seen : goal.returns-in_err-seen
returns-in_err-seen c =
    rw (handed c.from_residual-in_err-seen.ensures) (ended (goal.at.returns-in_err-seen c).At-loop-child (walk-visit-refused _ _ _ _ (child (goal.at.returns-in_err-seen c).In-Some) (sym c.in_err-seen.ensures)))

pub returns-in_err-child : goal.returns-in_err-child
returns-in_err-child c =
    rw (handed c.from_residual.ensures) (ended (goal.at.returns-in_err-child c).At-loop-child (walk_refused _ _ _ _ (sym c.in_err-child.ensures)))

pub returns : goal.returns
returns c =
    c.sources_of.ensures ∙ ended (goal.at.returns c).At-loop-child (walk-done _ _ _ _ (sym (rw c.in_default.is at c.in_ok-child.ensures)))
