-- The first indices one by one; where NEAR of them are equal, `far_indices` tells how many more are.
use Prim.Native.Nat.{◌+◌, ◌≤◌}
use native.Mathlib.Nat.{mul-le-mul_left}
use native.Mathlib.Omega.{arith}
use Rattle.table_patterns.proofs.run.alike_indices.Goals as goal

pub equal_indices-first-requires : goal.equal_indices-first-requires
equal_indices-first-requires c =
    let a = c.args in
    let h = c.requires in
    let n = c.min.ensures in
    let before : a.from + c.min.result ≤ a.end = omega arith in
    (h.0, h.1, omega arith, omega (arith, mul-le-mul_left a.width before, h.3), h.4)

pub far_indices-requires : goal.far_indices-requires
far_indices-requires c =
    let h = c.requires in
    let e = c.equal_indices-first.ensures in
    let n = c.min.ensures in
    (h.0, h.1, h.3, h.4, record { some = omega arith; within = omega (arith, e.within); same = λ j l. e.same j (omega (arith, c.if-first-ne-NEAR.false)) })
