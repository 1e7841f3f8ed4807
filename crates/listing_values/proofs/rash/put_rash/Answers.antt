-- The parts in order; each lies within the entry by what a decoded rash tells of its length.
use mathlib.Core.Path.{◌≡◌, ap, ◌∙◌}
use Prim.Native.Nat.{ℕ, ◌+◌, ◌*◌, ◌≤◌}
use native.Mathlib.Omega.{arith}
use lib.Dec.{eqb}
use lib.ListN.{length}
use Rattle.base_fields.specs.Answer.{choose}
use Rattle.base_fields.specs.Number.{be_at}
use Rattle.group_entries.specs.Decoded.{point_count, points_end, point_at, up_to}
use Rattle.group_entries.specs.declared.EntryLayout.TheVariants.{Rash}
use Rattle.listing_theorem.specs.Groups.{groups}
use Rattle.listing_theorem.specs.Listing.{each, point_bytes}
use Rattle.listing_numbers.specs.Store.{place_limit}
use Rattle.listing_values.specs.Parts.{PutsWithin}
use Rattle.listing_values.proofs.Parts.{ready-sized, value-put, number-within, within_then}
use Rattle.listing_values.proofs.rash.put_rash.Goals as goal
use Rattle.listing_values.proofs.rash.put_rash.Goals.{After-put_number-behind_count, After-put_points-behind_points, After-put_u8, After-rash_points_end-end}

-- where the points end
end-at : (c : After-rash_points_end-end) → c.rash_points_end-end.result ≡ points_end c.args.entry.now
end-at c = c.rash_points_end-end.ensures.0 ∙ ap (λ (n : ℕ). choose (eqb n 1) 4 (2 + 6 * n)) c.read_u16-count.ensures.0

-- the trailer stands behind them
inside : (c : After-rash_points_end-end) → c.rash_points_end-end.result + 9 ≤ length c.args.entry.now
inside c = rw (end-at c) (ready-sized c.requires)

count-put : (c : After-put_number-behind_count)
    → PutsWithin 3 (groups (point_count c.args.entry.now)) c.args.at c.args.out.now c.put_number-behind_count.new.out c.put_number-behind_count.result
count-put c = number-within 2 c.read_u16-count.ensures.0 (omega arith) c.put_number-behind_count.ensures

points_near : (c : After-put_points-behind_points) → c.put_points-behind_points.result ≤ place_limit + 524283
points_near c =
    omega (arith, c.put_points-behind_points.ensures.near, (number-within 2 c.read_u16-count.ensures.0 (omega arith) c.put_number-behind_count.ensures).near, c.read_u16-count.ensures.1, c.requires.place)

-- the points stand behind their count
points-put : (c : After-put_points-behind_points)
    → let s = c.args.entry.now in
    PutsWithin (8 * point_count s) (each point_bytes (up_to (point_at s) 0 (point_count s))) c.put_number-behind_count.result c.put_number-behind_count.new.out c.put_points-behind_points.new.out c.put_points-behind_points.result
points-put c = rw c.read_u16-count.ensures.0 at c.put_points-behind_points.ensures

-- the priority is the last byte of the trailer
priority-put : (c : After-put_u8)
    → let s = c.args.entry.now in
    PutsWithin 2 (groups (be_at 1 s (points_end s + 8))) c.put_u32-behind_minimum.result c.put_u32-behind_minimum.new.out c.put_u8.new.out c.put_u8.result
priority-put c =
    rw (c.rash_points_end-end.ensures.0 ∙ ap (λ (n : ℕ). choose (eqb n 1) 4 (2 + 6 * n)) c.read_u16-count.ensures.0) at c.put_u8.ensures

pub read_u16-count-requires : goal.read_u16-count-requires
read_u16-count-requires c = omega (arith, ready-sized c.requires)

pub put_points-behind_points-requires : goal.put_points-behind_points-requires
put_points-behind_points-requires c =
    (c.read_u16-count.ensures.0, ready-sized c.requires, omega (arith, (count-put (goal.at.put_points-behind_points-requires c).After-put_number-behind_count).near, c.requires.place))

pub put_u32-behind_maximum-requires : goal.put_u32-behind_maximum-requires
put_u32-behind_maximum-requires c = omega (arith, inside (goal.at.put_u32-behind_maximum-requires c).After-rash_points_end-end, points_near (goal.at.put_u32-behind_maximum-requires c).After-put_points-behind_points)

pub put_u32-behind_minimum-requires : goal.put_u32-behind_minimum-requires
put_u32-behind_minimum-requires c =
    omega (arith, inside (goal.at.put_u32-behind_minimum-requires c).After-rash_points_end-end, points_near (goal.at.put_u32-behind_minimum-requires c).After-put_points-behind_points)

pub put_u8-requires : goal.put_u8-requires
put_u8-requires c =
    omega (arith, inside (goal.at.put_u8-requires c).After-rash_points_end-end, points_near (goal.at.put_u8-requires c).After-put_points-behind_points)

pub returns : goal.returns
returns c =
    let e = end-at (goal.at.returns c).After-rash_points_end-end in
    let n = c.read_u16-count.ensures.0 in
    let front = within_then (count-put (goal.at.returns c).After-put_number-behind_count) (points-put (goal.at.returns c).After-put_points-behind_points) in
    let rates = within_then (within_then front (rw e at c.put_u32-behind_maximum.ensures)) (rw e at c.put_u32-behind_minimum.ensures) in
    value-put Rash _ (within_then rates (priority-put (goal.at.returns c).After-put_u8)) (omega (arith, n, c.read_u16-count.ensures.1))
