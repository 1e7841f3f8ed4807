-- Where records never run out: the group is not refused with 29, nor with any number that more lent memory would change.
use mathlib.Core.List.{List}
use Prim.Native.Nat.{ℕ}
use native.Mathlib.Omega.{arith}
use Rattle.base_fields.specs.Span.{bytes_at}
use Rattle.base_fields.proofs.Firm.{Firm}
use Rattle.table_rows.proofs.Samples.{covered_by-samples}
use Rattle.table_sbgp.proofs.Rooms.{sbgp-roomy}
use Rattle.table_csgp.proofs.Rooms.{csgp-roomy}
use Rattle.table_needed.specs.Needed.{unlimited}
use Rattle.table_needed.proofs.Covered.{sbgp-few, csgp-few}
use Rattle.listing_spec.specs.Walk.{TakenTable, sbgp_at, csgp_at}
use Rattle.listing_spec.specs.Group.{group_taken}
use Rattle.listing_spec.proofs.Taken.{parsed_taken}
use Rattle.listing_spec.proofs.FirmGroup.{group-firm}

-- the table's reader finds records enough
parsed-firm : (s : List ℕ) (k : TakenTable) → Firm (parsed_taken s unlimited k)
parsed-firm s (sbgp_at b) = let p = bytes_at s b in sbgp-roomy p unlimited (λ t e. omega (arith, sbgp-few p t e))
parsed-firm s (csgp_at b) = let p = bytes_at s b in csgp-roomy p unlimited (λ ps e. omega (arith, csgp-few p ps e, covered_by-samples ps))

pub enough-firm : (s : List ℕ) (t : ℕ) → Firm (group_taken s t unlimited)
enough-firm s t = group-firm s t unlimited (λ taken e. parsed-firm s taken.table)
