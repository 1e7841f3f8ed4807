-- The decoder's refusals first, then 29 (the laws of Points.antt); what is read lies inside by the extent that a decoded value tells.
use mathlib.Core.Path.{refl, sym, ◌∙◌}
use mathlib.Core.List.{List}
use Prim.Native.Nat.{ℕ}
use native.Mathlib.Omega.{arith}
use lib.ListN.{length-set}
use borrow.Author.Tests.{eq-eqb, ne_eqb}
use Rattle.std.specs.Prelude.{Ok}
use Rattle.group_entries.specs.Decoded.{decode_rash}
use Rattle.group_entries.specs.Told.{told_rash}
use Rattle.group_entries.proofs.Front.{handed, ToldWithin, told-at}
use Rattle.group_entries.proofs.Extent.{RashExtent, rash-extent}
use Rattle.group_entries.proofs.Points.{put-single, points-refused, no_room, room}
use Rattle.group_entries.proofs.rash.rash_operation_points.Goals as goal
use Rattle.group_entries.proofs.rash.rash_operation_points.Goals.{In_ok-plain}

-- behind its refusals
module _ (c : In_ok-plain) where
  abbrev bytes : List ℕ
  bytes = c.args.payload.now

  abbrev lent : List ℕ
  lent = c.args.run.now

  plain : ToldWithin bytes (decode_rash bytes) (told_rash (Ok c.in_ok-plain.plain))
  plain = told-at told_rash c.decode_rash.ensures c.in_ok-plain.was

  extent : RashExtent bytes c.in_ok-plain.plain.operation_point_count
  extent = rash-extent plain

pub returns-in_err-plain : goal.returns-in_err-plain
returns-in_err-plain c = rw (handed c.from_residual.ensures) (points-refused _ _ (told-at told_rash c.decode_rash.ensures c.in_err-plain.was))

pub returns-then-run-count : goal.returns-then-run-count
returns-then-run-count c = no_room (bytes (goal.at.returns-then-run-count c).In_ok-plain) (lent (goal.at.returns-then-run-count c).In_ok-plain) (plain (goal.at.returns-then-run-count c).In_ok-plain) (omega arith)

pub read_u16-share-requires : goal.read_u16-share-requires
read_u16-share-requires c =
    let x = extent (goal.at.read_u16-share-requires c).In_ok-plain in
    let whole = simp (← x.points, eq-eqb _ _ c.if-count-eq1.true) at x.whole in
    omega arith

pub bounds-run-1 : goal.bounds-run-1
bounds-run-1 c = simp length-set (omega arith)

pub returns-then-count-eq1 : goal.returns-then-count-eq1
returns-then-count-eq1 c =
    let one = c.if-count-eq1.true in
    let put = put-single (bytes (goal.at.returns-then-count-eq1 c).In_ok-plain) (lent (goal.at.returns-then-count-eq1 c).In_ok-plain) (sym (extent (goal.at.returns-then-count-eq1 c).In_ok-plain).points ∙ one) (omega arith) in
    room _ _ (plain (goal.at.returns-then-count-eq1 c).In_ok-plain) 1 _ one (omega arith) (rw c.read_u16-share.ensures.0 put)

pub put_points-requires : goal.put_points-requires
put_points-requires c =
    let x = extent (goal.at.put_points-requires c).In_ok-plain in
    let several = c.if-count-eq1.false in
    let whole = simp (← x.points, ne_eqb _ _ several) at x.whole in
    record { count_in_bounds = (omega arith, omega arith); fact = λ e. several (x.points ∙ e) }

pub returns : goal.returns
returns c =
    room _ _ (plain (goal.at.returns c).In_ok-plain) _ _ refl c.if-run-count.false c.put_points.ensures
