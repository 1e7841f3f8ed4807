-- Four bits a half byte: (4 x + 7) / 8 is (x + 1) / 2.
use Prim.Native.Nat.{◌+◌, ◌*◌, ◌≤◌}
use native.Mathlib.Nat.{mul-le-mul}
use native.Mathlib.Omega.{arith}
use Rattle.base_ids.specs.Limits.{record_limit}
use Rattle.table_writers.proofs.Body.{four}
use Rattle.table_writers.proofs.tally.length_of.Goals as goal

pub overflow_mul-halves : goal.overflow_mul-halves
overflow_mul-halves c =
    let a = c.halves_for.result in
    let b = c.halves_for-2.result in
    let n = c.args.t.rows in
    let w : 1 + a + b ≤ 17 = omega (arith, c.halves_for.ensures.1, c.halves_for-2.ensures.1) in
    let m : n * (1 + a + b) ≤ record_limit * 17 = mul-le-mul {n₁ = n} {n₂ = record_limit} c.requires.0 w in
    omega arith

pub overflow_add-result : goal.overflow_add-result
overflow_add-result c =
    let a = c.halves_for.result in
    let b = c.halves_for-2.result in
    let n = c.args.t.rows in
    let w : 1 + a + b ≤ 17 = omega (arith, c.halves_for.ensures.1, c.halves_for-2.ensures.1) in
    let m : n * (1 + a + b) ≤ record_limit * 17 = mul-le-mul {n₁ = n} {n₂ = record_limit} c.requires.0 w in
    omega arith

pub overflow_add-result-2 : goal.overflow_add-result-2
overflow_add-result-2 c =
    let a = c.halves_for.result in
    let b = c.halves_for-2.result in
    let n = c.args.t.rows in
    let w : 1 + a + b ≤ 17 = omega (arith, c.halves_for.ensures.1, c.halves_for-2.ensures.1) in
    let m : n * (1 + a + b) ≤ record_limit * 17 = mul-le-mul {n₁ = n} {n₂ = record_limit} c.requires.0 w in
    omega arith

pub returns : goal.returns
returns c =
    let a = c.halves_for.result in
    let b = c.halves_for-2.result in
    let n = c.args.t.rows in
    rw (← c.halves_for.ensures.0, ← c.index_needs.ensures, ← c.halves_for-2.ensures.0)
    (omega (arith, four n a b))
