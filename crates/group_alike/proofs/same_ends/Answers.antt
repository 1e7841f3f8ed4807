-- One or two blocks from each end.
use mathlib.Core.Path.{◌≡◌}
use Prim.Native.Nat.{◌+◌, ◌-◌}
use native.Mathlib.Omega.{arith}
use Rattle.group_alike.proofs.Differing.{differing_join, two_ends, gives_same}
use Rattle.group_alike.proofs.same_ends.Goals as goal

pub returns-then-n-ge64 : goal.returns-then-n-ge64
returns-then-n-ge64 c =
    let n = c.args.n in
    let middle : n - 32 ≡ n - 64 + 32 = omega arith in
    let front = differing_join _ _ 0 32 32 c.differing_32.ensures c.differing_32-then-n-ge64.ensures in
    let back = differing_join _ _ (n - 64) 32 32 c.differing_32-then-n-ge64-2.ensures (rw middle at c.differing_32-then-n-ge64-3.ensures) in
    gives_same _ _ n (two_ends _ _ n 64 (omega arith) (omega arith) front back)

pub returns-then-n-ge32 : goal.returns-then-n-ge32
returns-then-n-ge32 c =
    let n = c.args.n in
    gives_same _ _ n (two_ends _ _ n 32 (omega arith) (omega arith) c.differing_32-then-n-ge32.ensures c.differing_32-then-n-ge32-2.ensures)

pub returns-then-n-ge16 : goal.returns-then-n-ge16
returns-then-n-ge16 c =
    let n = c.args.n in
    let middle : n - 8 ≡ n - 16 + 8 = omega arith in
    let front = differing_join _ _ 0 8 8 c.differing_8.ensures c.differing_8-then-n-ge16.ensures in
    let back = differing_join _ _ (n - 16) 8 8 c.differing_8-then-n-ge16-2.ensures (rw middle at c.differing_8-then-n-ge16-3.ensures) in
    gives_same _ _ n (two_ends _ _ n 16 (omega arith) (omega arith) front back)

pub returns : goal.returns
returns c =
    let n = c.args.n in
    gives_same _ _ n (two_ends _ _ n 8 (omega arith) (omega arith) c.differing_8-2.ensures c.differing_8-3.ensures)
