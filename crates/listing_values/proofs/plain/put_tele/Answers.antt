-- The top bit of a byte is its quotient by 128.
use native.Mathlib.Omega.{arith}
use Rattle.group_entries.specs.declared.EntryLayout.TheVariants.{Tele}
use Rattle.listing_values.proofs.Parts.{ready-sized, value-put, number-within, flag-number}
use Rattle.listing_values.proofs.plain.put_tele.Goals as goal

pub read_u8-requires : goal.read_u8-requires
read_u8-requires c = ready-sized c.requires

pub returns : goal.returns
returns c =
    let b = c.read_u8.ensures in
    let e = flag-number b.0 b.1 in
    value-put Tele _ (number-within 0 e (omega arith) c.put_number.ensures) (omega arith)
