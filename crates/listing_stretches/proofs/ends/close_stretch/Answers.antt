-- Nothing in hand leaves no bytes; else the stretch in hand is the last one.
use native.Mathlib.Omega.{arith}
use Rattle.listing_stretches.proofs.Entering.{means-by, close-none, close-some}
use Rattle.listing_stretches.proofs.ends.close_stretch.Goals as goal

pub returns-then-hand-eq0 : goal.returns-then-hand-eq0
returns-then-hand-eq0 c =
    close-none _ _ _ c.args.progress c.if-hand-eq0.true

pub put_stretch-requires : goal.put_stretch-requires
put_stretch-requires c =
    let w = c.requires.0.1 in
    let held = c.requires.1 in
    (w.head.short, means-by _ _ w held.meant held.known, c.requires.2)

pub returns : goal.returns
returns c =
    close-some _ _ c.requires.0.1 _ c.args.progress c.requires.1 (omega (arith, c.if-hand-eq0.false)) _ _ c.put_stretch.ensures
