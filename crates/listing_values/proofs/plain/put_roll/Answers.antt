use mathlib.Core.Path.{ap, ◌∙◌}
use Prim.Native.Nat.{ℕ}
use native.Mathlib.Omega.{arith}
use Rattle.group_entries.specs.declared.EntryLayout.TheVariants.{Roll}
use Rattle.group_entries.specs.Decoded.{signed16}
use Rattle.listing_theorem.specs.Listing.{shifted}
use Rattle.listing_values.proofs.Parts.{ready-sized, value-put, number-within}
use Rattle.listing_values.proofs.plain.put_roll.Goals as goal

pub read_u16-requires : goal.read_u16-requires
read_u16-requires c = ready-sized c.requires

pub returns : goal.returns
returns c =
    let distance = c.shifted_distance-distance in
    let e = distance.ensures.0 ∙ ap (λ (x : ℕ). shifted (signed16 x)) c.read_u16.ensures.0 in
    value-put Roll _ (number-within 2 e (omega arith) c.put_number.ensures) (omega arith)
