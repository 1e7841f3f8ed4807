-- The parts in order; the offsets and the pairs fill the entry by what a decoded alst tells of its length.
use mathlib.Core.Path.{◌≡◌, refl, ap}
use Prim.Native.Nat.{ℕ, ◌+◌, ◌-◌, ◌*◌, ◌/◌, ◌≤◌}
use native.Mathlib.Omega.{arith}
use mathlib.Core.List.{List}
use lib.ListN.{length}
use Rattle.group_entries.specs.Decoded.{roll_count_of, offsets_end, pair_at, up_to}
use Rattle.group_entries.specs.declared.EntryLayout.TheVariants.{Alst}
use Rattle.listing_theorem.specs.Groups.{groups}
use Rattle.listing_theorem.specs.Listing.{each, pair_bytes}
use Rattle.listing_numbers.specs.Store.{place_limit}
use Rattle.listing_values.specs.Parts.{Ready, PutsWithin}
use Rattle.listing_values.proofs.Parts.{ready-sized, value-put, number-within, within_then}
use Rattle.listing_values.proofs.alst.put_alst.Goals as goal
use Rattle.listing_values.proofs.alst.put_alst.Goals.{After-put_number-behind_count, After-put_number-behind_rolls, After-put_offsets-behind_offsets, After-put_pairs, After-read_u16-rolls}

-- the pairs fill what the offsets leave
filled : {s : List ℕ} {n at : ℕ} → n ≡ roll_count_of s → Ready Alst s at → 4 + 4 * n + 4 * ((length s - (4 + 4 * n)) / 4) ≡ length s
filled e r = rw e (ready-sized r)

extent : (c : After-read_u16-rolls)
    → let n = c.read_u16-rolls.result in
    let size = length c.args.entry.now in
    4 + 4 * n + 4 * ((size - (4 + 4 * n)) / 4) ≡ size
extent c = filled c.read_u16-rolls.ensures.0 c.requires

count-put : (c : After-put_number-behind_rolls)
    → PutsWithin 3 (groups (roll_count_of c.args.entry.now)) c.args.at c.args.out.now c.put_number-behind_rolls.new.out c.put_number-behind_rolls.result
count-put c = number-within 2 c.read_u16-rolls.ensures.0 (omega arith) c.put_number-behind_rolls.ensures

offsets-near : (c : After-put_offsets-behind_offsets) → c.put_offsets-behind_offsets.result ≤ place_limit + 327681
offsets-near c =
    omega (arith, c.put_offsets-behind_offsets.ensures.near, c.put_u16-behind_first.ensures.near, (number-within 2 c.read_u16-rolls.ensures.0 (omega arith) c.put_number-behind_rolls.ensures).near, c.read_u16-rolls.ensures.1, c.requires.place)

-- as many pairs as the bytes behind the offsets make
abbrev pair_count : List ℕ → ℕ
pair_count s = (length s - offsets_end s) / 4

-- the pairs stand behind their count, which stands behind the offsets
pairs-counted : (c : After-put_number-behind_count)
    → let s = c.args.entry.now in
    PutsWithin 4 (groups (pair_count s)) c.put_offsets-behind_offsets.result c.put_offsets-behind_offsets.new.out c.put_number-behind_count.new.out c.put_number-behind_count.result
pairs-counted c =
    let n = ap (λ (n : ℕ). (length c.args.entry.now - (4 + 4 * n)) / 4) c.read_u16-rolls.ensures.0 in
    number-within 3 n (omega (arith, filled c.read_u16-rolls.ensures.0 c.requires, c.requires.short)) c.put_number-behind_count.ensures

pairs-put : (c : After-put_pairs)
    → let s = c.args.entry.now in
    PutsWithin (6 * pair_count s) (each pair_bytes (up_to (pair_at s) 0 (pair_count s))) c.put_number-behind_count.result c.put_number-behind_count.new.out c.put_pairs.new.out c.put_pairs.result
pairs-put c =
    let n = ap (λ (n : ℕ). (length c.args.entry.now - (4 + 4 * n)) / 4) c.read_u16-rolls.ensures.0 in
    rw n at c.put_pairs.ensures

pub read_u16-rolls-requires : goal.read_u16-rolls-requires
read_u16-rolls-requires c = omega (arith, ready-sized c.requires)

pub overflow_sub-pairs : goal.overflow_sub-pairs
overflow_sub-pairs c = omega (arith, extent c)

pub put_u16-behind_first-requires : goal.put_u16-behind_first-requires
put_u16-behind_first-requires c =
    omega (arith, extent (goal.at.put_u16-behind_first-requires c).After-read_u16-rolls, (count-put (goal.at.put_u16-behind_first-requires c).After-put_number-behind_rolls).near, c.requires.place)

pub put_offsets-behind_offsets-requires : goal.put_offsets-behind_offsets-requires
put_offsets-behind_offsets-requires c =
    omega (arith, extent (goal.at.put_offsets-behind_offsets-requires c).After-read_u16-rolls, (count-put (goal.at.put_offsets-behind_offsets-requires c).After-put_number-behind_rolls).near, c.requires.place)

pub put_number-behind_count-requires : goal.put_number-behind_count-requires
put_number-behind_count-requires c = omega (arith, offsets-near (goal.at.put_number-behind_count-requires c).After-put_offsets-behind_offsets)

pub put_pairs-requires : goal.put_pairs-requires
put_pairs-requires c =
    let e = c.read_u16-rolls.ensures.0 in
    let pairs = number-within 3 refl (omega (arith, extent (goal.at.put_pairs-requires c).After-read_u16-rolls, c.requires.short)) c.put_number-behind_count.ensures in
    (ap (λ (n : ℕ). 4 + 4 * n) e, omega (arith, extent (goal.at.put_pairs-requires c).After-read_u16-rolls), c.requires.short, omega (arith, pairs.near, offsets-near (goal.at.put_pairs-requires c).After-put_offsets-behind_offsets))

pub returns : goal.returns
returns c =
    let e = c.read_u16-rolls.ensures.0 in
    let size = length c.args.entry.now in
    let n = ap (λ (n : ℕ). (size - (4 + 4 * n)) / 4) e in
    let front = within_then (within_then (count-put (goal.at.returns c).After-put_number-behind_rolls) c.put_u16-behind_first.ensures) (rw e at c.put_offsets-behind_offsets.ensures) in
    value-put Alst _ (within_then (within_then front (pairs-counted (goal.at.returns c).After-put_number-behind_count)) (pairs-put (goal.at.returns c).After-put_pairs)) (omega (arith, extent (goal.at.returns c).After-read_u16-rolls, e, n, c.read_u16-rolls.ensures.1, c.requires.short))
