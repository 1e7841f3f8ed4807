-- Both bounds hold, or the upper one fails, or else the lower one does.
use Prim.Native.Nat.{◌<◌}
use native.Mathlib.Omega.{arith}
use lib.ListN.{length}
use borrow.Author.Tests.{lt-ltb, le-ltb}
use Rattle.group_entries.proofs.check_length.Goals as goal
use Rattle.group_entries.proofs.check_length.Goals.{then-least-n+else-n-le-INPUT_LIMIT, else-least-n}

pub returns-then-n-le-INPUT_LIMIT : goal.returns-then-n-le-INPUT_LIMIT
returns-then-n-le-INPUT_LIMIT c = record { told = simp (le-ltb _ _ c.if-n-le-INPUT_LIMIT.true, le-ltb _ _ c.if-least-n.true) }

pub returns-then-n-gt-INPUT_LIMIT : goal.returns-then-n-gt-INPUT_LIMIT
returns-then-n-gt-INPUT_LIMIT c = record { told = simp (lt-ltb _ _ c.if-n-gt-INPUT_LIMIT.true) }

pub returns : goal.returns
returns c =
    let a = c.args in
    let short : length a.payload.now < a.least = elim c.if-least-n.branch [ then-least-n+else-n-le-INPUT_LIMIT w ↦ absurd (omega (arith, w.if-n-le-INPUT_LIMIT.false)) | else-least-n w ↦ omega (arith, w.if-least-n.false) ] in
    record { told = simp (le-ltb _ _ c.if-n-gt-INPUT_LIMIT.false, lt-ltb _ _ short) }
