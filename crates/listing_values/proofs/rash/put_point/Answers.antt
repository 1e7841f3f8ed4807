-- The law of one point, or that of several (proofs/Extent.antt of group_entries).
use mathlib.Core.Path.{◌≡◌, refl, sym, ◌∙◌}
use Prim.Native.Nat.{◌+◌, ◌*◌, ◌≤◌}
use native.Mathlib.Omega.{arith}
use lib.ListN.{length}
use borrow.Author.Tests.{ne_eqb}
use Rattle.group_entries.proofs.Extent.{single, several}
use Rattle.listing_values.proofs.Parts.{two-within, widen}
use Rattle.listing_values.proofs.rash.put_point.Goals as goal
use Rattle.listing_values.proofs.rash.put_point.Goals.{Else-count-eq1}

-- a point of several lies before the trailer
inside : (c : Else-count-eq1)
    → 2 + 6 * c.args.k + 6 ≤ length c.args.entry.now
inside c =
    let whole = simp (← c.requires.0, ne_eqb _ _ c.if-count-eq1.false) at c.requires.2 in
    omega arith

pub returns-then-count-eq1 : goal.returns-then-count-eq1
returns-then-count-eq1 c =
    let one = single c.args.entry.now c.args.k (sym c.requires.0 ∙ c.if-count-eq1.true) in
    rw one (widen (omega arith) (two-within 0 2 refl c.read_u16.ensures.0 (omega arith) (omega arith) c.put_two.ensures))

pub read_u32-bitrate-requires : goal.read_u32-bitrate-requires
read_u32-bitrate-requires c = omega (arith, inside c)

pub read_u16-share-requires : goal.read_u16-share-requires
read_u16-share-requires c = omega (arith, inside (goal.at.read_u16-share-requires c).Else-count-eq1)

pub returns : goal.returns
returns c =
    let k = c.args.k in
    let d : 6 + 6 * k ≡ 2 + 6 * k + 4 = omega arith in
    let more = rw d at (several c.args.entry.now k (λ e. c.if-count-eq1.false (c.requires.0 ∙ e))) in
    let put = c.put_two-2.ensures in
    rw more (two-within 4 2 c.read_u32-bitrate.ensures.0 c.read_u16-share.ensures.0 (omega arith) (omega arith) put)
