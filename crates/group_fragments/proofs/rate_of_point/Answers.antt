-- By the remainder; the product and the rounded quotient fit 64 bits.
use Rattle.group_fragments.specs.Fragments.{rate_of}
use borrow.Author.Tests.{lt-ltb, le-ltb}
use native.Mathlib.Omega.{arith}
use native.Mathlib.Nat.{mul-le-mul, div-add-mod', mod-lt}
use Prim.Native.Nat.{ℕ, ◌*◌, ◌/◌, ◌%◌, ◌≤◌}
use Rattle.group_fragments.proofs.rate_of_point.Goals as goal

-- the product fits
product-fits : (b s : ℕ) → b ≤ 4294967295 → s ≤ 65535 → b * s ≤ 281470681677825
product-fits b s h k = omega (arith, mul-le-mul h k)

pub overflow_mul-product : goal.overflow_mul-product
overflow_mul-product c = omega (arith, product-fits c.args.bitrate c.args.share (omega arith) (omega arith))

pub returns-then-rest-lt50 : goal.returns-then-rest-lt50
unfolding rate_of
returns-then-rest-lt50 c = let a = c.args in simp (lt-ltb (a.bitrate * a.share % 100) 50 c.if-rest-lt50.true) (omega arith)

pub overflow_add-result : goal.overflow_add-result
overflow_add-result c = let a = c.args in
    omega (arith, product-fits a.bitrate a.share (omega arith) (omega arith), div-add-mod' (a.bitrate * a.share) 100)

pub returns-then-rest-gt50 : goal.returns-then-rest-gt50
unfolding rate_of
returns-then-rest-gt50 c = let a = c.args in
    simp (le-ltb (a.bitrate * a.share % 100) 50 (omega (arith, c.if-rest-lt50.false)), lt-ltb 50 (a.bitrate * a.share % 100) c.if-rest-gt50.true)

pub overflow_add-result-2 : goal.overflow_add-result-2
overflow_add-result-2 c = let a = c.args in
    omega (arith, product-fits a.bitrate a.share (omega arith) (omega arith), div-add-mod' (a.bitrate * a.share) 100, mod-lt (a.bitrate * a.share / 100) {m = 2} (omega arith))

pub returns : goal.returns
unfolding rate_of
returns c = let a = c.args in
    simp (le-ltb (a.bitrate * a.share % 100) 50 (omega (arith, c.if-rest-lt50.false)), le-ltb 50 (a.bitrate * a.share % 100) c.if-rest-gt50.false)
