-- The length and the kind, and behind kind 2 the value.
use mathlib.Core.Path.{subst}
use Prim.Native.Nat.{◌+◌, ◌^◌, ◌≤◌, ◌<◌}
use native.Mathlib.Omega.{arith}
use Rattle.listing_numbers.proofs.Stores.{number-near, number-near_64}
use Rattle.listing_meanings.specs.Meant.{entry_meaning, Means}
use Rattle.listing_meanings.specs.declared.MeaningAt.{MeaningAt}
use Rattle.listing_stretches.proofs.Putting.{cut, put-outside, put-missing, put-entry, entry_value}
use Rattle.listing_stretches.proofs.enter.put_stretch.Goals as goal
use Rattle.listing_stretches.proofs.enter.put_stretch.Goals.{After-put_number-kind, In-Entry}

-- the length is put
module _ (c : After-put_number-kind) where
  small : c.args.samples < 2 ^ 64
  small = omega (arith, c.ranges.samples.fits)

  near : c.put_number-kind.result ≤ c.args.at + 10
  near = number-near_64 c.args.samples c.put_number-kind.ensures small

-- of an entry
module _ (c : In-Entry) where
  means : Means c.args.grouping_type c.args.s.now (entry_meaning c.in-Entry.part)
  means = subst (λ (m : MeaningAt). Means c.args.grouping_type c.args.s.now m) c.in-Entry.is c.requires.1

pub put_number-requires : goal.put_number-requires
put_number-requires c =
    omega (arith, near (goal.at.put_number-requires c).After-put_number-kind, c.requires.2)

pub put_number-requires-in-Missing : goal.put_number-requires-in-Missing
put_number-requires-in-Missing c =
    omega (arith, near (goal.at.put_number-requires-in-Missing c).After-put_number-kind, c.requires.2)

pub put_number-value-requires : goal.put_number-value-requires
put_number-value-requires c =
    omega (arith, near (goal.at.put_number-value-requires c).After-put_number-kind, c.requires.2)

pub overflow_add-end : goal.overflow_add-end
overflow_add-end c =
    omega (arith, (means (goal.at.overflow_add-end c).In-Entry).inside, c.requires.0)

pub slice_bounds-put_value-end : goal.slice_bounds-put_value-end
slice_bounds-put_value-end c = (means (goal.at.slice_bounds-put_value-end c).In-Entry).inside

pub put_value-requires : goal.put_value-requires
put_value-requires c =
    let p = (goal.at.put_value-requires c).After-put_number-kind in
    let value = number-near 0 2 c.put_number-value.ensures (omega arith) in
    rw (cut c.in-Entry.part)
    (entry_value _ _ _ c.layout_of.ensures (means (goal.at.put_value-requires c).In-Entry) c.requires.0 _ (omega (arith, near p, value, c.requires.2)))

pub returns-in-Outside : goal.returns-in-Outside
returns-in-Outside c =
    rw c.in-Outside.is (put-outside _ _ _ _ _ _ _ c.put_number-kind.ensures c.put_number.ensures (small (goal.at.returns-in-Outside c).After-put_number-kind))

pub returns-in-Missing : goal.returns-in-Missing
returns-in-Missing c =
    rw c.in-Missing.is (put-missing _ _ _ _ _ _ _ c.put_number-kind.ensures c.put_number-in-Missing.ensures (small (goal.at.returns-in-Missing c).After-put_number-kind))

pub returns-in-Entry : goal.returns-in-Entry
returns-in-Entry c =
    let p = (goal.at.returns-in-Entry c).After-put_number-kind in
    rw c.in-Entry.is
    (put-entry _ _ _ _ _ _ _ _ c.put_number-kind.ensures c.put_number-value.ensures (small p) c.layout_of.ensures
    (rw (cut c.in-Entry.part) at c.put_value.ensures))
