use lib.ListN.{length}
use native.Mathlib.Omega.{arith}
use Prim.Native.Nat.{◌+◌, ◌≤◌, ◌<◌}
use borrow.Author.Tests.{lt-ltb, le-ltb}
use Rattle.group_sgpd.proofs.spans.whole_entry.Goals as goal

pub returns-then-s-place : goal.returns-then-s-place
returns-then-s-place c =
    let h : length c.args.s.now < c.args.place + c.args.size = omega arith in
    simp (lt-ltb _ _ h)

pub returns : goal.returns
returns c =
    let h : c.args.place + c.args.size ≤ length c.args.s.now = omega arith in
    simp (le-ltb _ _ h)
