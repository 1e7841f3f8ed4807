-- `half_bytes::put_half` meets its contract: by the branch that was taken.
use Prim.Native.Nat.{◌/◌, ◌%◌}
use mathlib.Core.Path.{◌≡◌}
use native.Mathlib.Omega.{arith}
use borrow.Author.Tests.{eq-eqb, ne_eqb}
use Rattle.table_writing.specs.Output.{half_put}
use Rattle.table_half_bytes.proofs.put_half.Goals as goal

pub overflow_add-out : goal.overflow_add-out
overflow_add-out c =
    let odd : c.args.h % 2 ≡ 1 = omega (arith, c.if-h-eq0.false) in
    omega (arith, c.requires.2 odd, c.slice_known-1.given (c.args.h / 2))

pub returns-then-h-eq0 : goal.returns-then-h-eq0
unfolding half_put
returns-then-h-eq0 c = simp (eq-eqb _ _ c.if-h-eq0.true)

pub returns-else-h-eq0 : goal.returns-else-h-eq0
unfolding half_put
returns-else-h-eq0 c = simp (ne_eqb _ _ c.if-h-eq0.false)
