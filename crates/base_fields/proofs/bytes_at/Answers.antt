-- The part as it is cut.
use mathlib.Core.Path.{◌≡◌, refl}
use Prim.Native.Nat.{◌+◌, ◌-◌}
use native.Mathlib.Omega.{arith}
use Rattle.base_fields.proofs.bytes_at.Goals as goal

pub returns : goal.returns
returns c =
    let a = c.args in
    let e : a.place + a.size - a.place ≡ a.size = omega arith in
    rw e (record { bytes = refl; place = (refl, refl) })
