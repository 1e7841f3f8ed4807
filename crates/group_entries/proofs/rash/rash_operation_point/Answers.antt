-- The decoder's refusals first, none past the count (the laws of Front.antt); what is read lies inside by the extent that a decoded value tells.
use mathlib.Core.Path.{◌≡◌, refl, ap, sym, ◌∙◌}
use mathlib.Core.List.{List}
use Prim.Native.Nat.{ℕ, ◌+◌, ◌*◌, ◌<◌, ◌≤◌}
use native.Mathlib.Omega.{arith}
use lib.ListN.{length}
use borrow.Author.Tests.{eq-eqb, ne_eqb}
use Rattle.base_fields.specs.Answer.{given}
use Rattle.group_entries.specs.Told.{told_rash}
use Rattle.group_entries.proofs.Front.{handed, told-at, number-refused, number-none, number-given}
use Rattle.group_entries.proofs.Extent.{RashExtent, rash-extent, single, several}
use Rattle.group_entries.proofs.rash.rash_operation_point.Goals as goal
use Rattle.group_entries.proofs.rash.rash_operation_point.Goals.{In_ok-plain}

-- the points and the trailer lie within the payload
extent : (c : In_ok-plain) → RashExtent c.args.payload.now c.in_ok-plain.plain.operation_point_count
extent c = rash-extent (told-at told_rash c.decode_rash.ensures c.in_ok-plain.was)

-- a point of several lies before the trailer
inside : (s : List ℕ) (n k : ℕ) → RashExtent s n → (n ≡ 1 → ⊥) → k < n → 2 + 6 * k + 6 ≤ length s
inside s n k x several h =
    let whole = simp (← x.points, ne_eqb _ _ several) at x.whole in
    omega arith

pub returns-in_err-plain : goal.returns-in_err-plain
returns-in_err-plain c = rw (handed c.from_residual.ensures) (number-refused _ _ _ (told-at told_rash c.decode_rash.ensures c.in_err-plain.was))

pub returns-then-count-k : goal.returns-then-count-k
returns-then-count-k c = number-none _ _ _ (told-at told_rash c.decode_rash.ensures c.in_ok-plain.was) c.if-count-k.true

pub read_u16-requires : goal.read_u16-requires
read_u16-requires c =
    let x = extent (goal.at.read_u16-requires c).In_ok-plain in
    let whole = simp (← x.points, eq-eqb _ _ c.if-count-eq1.true) at x.whole in
    omega arith

pub returns-then-count-eq1 : goal.returns-then-count-eq1
returns-then-count-eq1 c =
    let s = c.args.payload.now in
    let k = c.args.k in
    let one = single s k (sym (extent (goal.at.returns-then-count-eq1 c).In_ok-plain).points ∙ c.if-count-eq1.true) in
    ap given (rw (one, c.read_u16.ensures.0) refl) ∙ number-given _ _ _ (told-at told_rash c.decode_rash.ensures c.in_ok-plain.was) c.if-count-k.false

pub read_u32-requires : goal.read_u32-requires
read_u32-requires c =
    omega (arith, inside _ _ _ (extent (goal.at.read_u32-requires c).In_ok-plain) c.if-count-eq1.false c.if-count-k.false)

pub read_u16-requires-2 : goal.read_u16-requires-2
read_u16-requires-2 c =
    omega (arith, inside _ _ _ (extent (goal.at.read_u16-requires-2 c).In_ok-plain) c.if-count-eq1.false c.if-count-k.false)

pub returns : goal.returns
returns c =
    let s = c.args.payload.now in
    let k = c.args.k in
    let d : 6 + 6 * k ≡ 2 + 6 * k + 4 = omega arith in
    let more = rw d at (several s k (λ e. c.if-count-eq1.false ((extent (goal.at.returns c).In_ok-plain).points ∙ e))) in
    ap given (rw (more, c.read_u32.ensures.0, c.read_u16-2.ensures.0) refl) ∙ number-given _ _ _ (told-at told_rash c.decode_rash.ensures c.in_ok-plain.was) c.if-count-k.false
