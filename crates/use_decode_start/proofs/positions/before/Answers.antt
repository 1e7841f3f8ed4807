-- What is left without so many samples and one.
use mathlib.Core.Path.{◌≡◌, ap, ◌∙◌}
use Prim.Native.Nat.{suc, ◌-◌}
use native.Mathlib.Omega.{arith}
use Rattle.use_decode_start.specs.Inner.{told_latest}
use Rattle.use_decode_start.proofs.Bests.{begun}
use Rattle.use_decode_start.proofs.positions.before.Goals as goal

pub returns : goal.returns
returns c =
    let a = c.args in
    let e : c.saturating_sub.result ≡ a.at - suc a.d = omega (arith, c.saturating_sub.ensures) in
    ap told_latest e ∙ begun a.at a.d
