use mathlib.Core.Path.{refl, ◌∙◌}
use Prim.Native.Nat.{◌+◌, ◌<◌}
use native.Mathlib.Omega.{arith}
use Rattle.listing_theorem.proofs.Groups.{groups-last, groups-more, groups-length_64}
use Rattle.listing_numbers.specs.Store.{place_bound}
use Rattle.listing_numbers.proofs.Stores.{puts_then, some-group}
use Rattle.listing_numbers.proofs.put_number.Goals as goal
use Rattle.listing_numbers.proofs.put_number.Goals.{At-loop-left}

-- one more place fits: what is left has a group, and the whole number at most ten
room : (c : At-loop-left) → c.loop-left.place + 1 < place_bound
room c =
    let l = c.loop-left in
    let whole = l.invariant.2 _ _ (record { output = refl; next = refl }) in
    omega (arith, whole.next, groups-length_64 c.args.n (omega arith), some-group l.left)

pub loop-left-init : goal.loop-left-init
loop-left-init c = (omega arith, refl, λ after behind p. p)

pub put_byte-place-requires : goal.put_byte-place-requires
put_byte-place-requires c = room (goal.at.put_byte-place-requires c).At-loop-left

pub loop-left-smaller : goal.loop-left-smaller
loop-left-smaller c = omega arith

pub loop-left-preserved : goal.loop-left-preserved
loop-left-preserved c =
    let l = c.loop-left in
    let more = groups-more l.left (omega arith) in
    let put = c.put_byte-place in
    (omega arith, put.auto.out ∙ l.invariant.1, λ after behind p. l.invariant.2 after behind (rw more (puts_then put.ensures p)))

pub put_byte-requires : goal.put_byte-requires
put_byte-requires c = room (goal.at.put_byte-requires c).At-loop-left

pub shape_of-out : goal.shape_of-out
shape_of-out c = c.put_byte.auto.out ∙ c.loop-left.invariant.1

pub returns : goal.returns
returns c =
    let l = c.loop-left in
    l.invariant.2 _ _ (rw (groups-last l.left (omega arith)) c.put_byte.ensures)
