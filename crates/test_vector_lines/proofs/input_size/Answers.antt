-- Two bytes behind the arguments; the sums fit.
use mathlib.Core.Path.{◌≡◌, ap, ◌∙◌}
use Prim.Native.Nat.{ℕ, ◌+◌, ◌*◌}
use native.Mathlib.Omega.{arith}
use lib.ListN.{get_or}
use Rattle.test_vector_lines.proofs.input_size.Goals as goal

pub returns : goal.returns
returns c =
    let s = c.args.s.now in
    let n = c.byte.result in
    let e : 2 + 8 * n ≡ 2 + 8 * get_or s 1 0 = omega arith in
    let f : 2 + 8 * n + 1 ≡ 3 + 8 * get_or s 1 0 = omega arith in
    let high = c.byte-2.ensures.0 ∙ ap (λ (p : ℕ). get_or s p 0) e in
    let low = c.byte-3.ensures.0 ∙ ap (λ (p : ℕ). get_or s p 0) f in
    (omega arith, omega arith)
