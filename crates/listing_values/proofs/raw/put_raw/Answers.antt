use mathlib.Core.Path.{refl}
use native.Mathlib.Omega.{arith}
use Rattle.group_entries.specs.declared.EntryLayout.TheVariants.{Raw}
use Rattle.listing_values.proofs.Parts.{value-put, number-within, bytes-within, within_then}
use Rattle.listing_values.proofs.raw.put_raw.Goals as goal

pub put_bytes-requires : goal.put_bytes-requires
put_bytes-requires c =
    let put = c.put_number-behind_count in
    let count = number-within 3 refl (omega arith) put.ensures in
    omega arith

pub returns : goal.returns
returns c =
    let count = number-within 3 refl (omega arith) c.put_number-behind_count.ensures in
    value-put Raw _ (within_then count (bytes-within c.put_bytes.ensures)) (omega arith)
