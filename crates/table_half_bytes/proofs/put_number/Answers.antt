use mathlib.Core.Path.{◌≡◌, refl, sym, ◌∙◌}
use Prim.Native.Nat.{◌+◌, ◌-◌, ◌*◌, ◌/◌, ◌%◌, ◌^◌, ◌<◌}
use native.Mathlib.Omega.{arith}
use lib.ListN.{length}
use Rattle.table_writing.specs.Output.{half_put, number_put}
use Rattle.table_writing.proofs.Put.{half-low, number_step}
use Rattle.table_half_bytes.proofs.put_number.Goals as goal

pub loop-i-init : goal.loop-i-init
loop-i-init c =
    let a = c.args in
    let e : a.h + a.m - a.m ≡ a.h = omega arith in
    rw e (refl, c.requires.2)

pub put_half-requires : goal.put_half-requires
put_half-requires c =
    let a = c.args in
    let e : a.h + a.m - 1 - (c.loop-i.i - 1) ≡ a.h + a.m - c.loop-i.i = omega arith in
    rw e (omega arith, omega arith, c.loop-i.invariant.1)

pub loop-i-preserved : goal.loop-i-preserved
loop-i-preserved c =
    let l = c.loop-i in
    let a = c.args in
    let at = a.h + a.m - l.i in
    let d = a.v / 2 ^ (4 * (l.i - 1)) % 16 in
    let here : a.h + a.m - 1 - (l.i - 1) ≡ at = omega arith in
    let next : a.h + a.m - (l.i - 1) ≡ at + 1 = omega arith in
    let e : c.put_half.new.out ≡ half_put at d l.out = rw here at c.put_half.ensures in
    let some : 0 < l.i = omega arith in
    let room : at / 2 < length l.out = omega arith in
    rw (e, next) (sym (number_step l.i at a.v l.out some) ∙ l.invariant.0, half-low at d l.out room)

pub returns : goal.returns
unfolding number_put
returns c = let z : c.loop-i.i ≡ 0 = omega arith in rw z at c.loop-i.invariant.0
