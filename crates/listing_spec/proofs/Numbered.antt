-- A group and the cue listing refuse with document 01's numbers: none is 0 or 255.
use mathlib.Core.List.{List}
use Prim.Native.Nat.{ℕ}
use lib.Dec.{ltb}
use lib.ListN.{length}
use borrow.Author.Rules.{rules}
use Rattle.base_fields.specs.Span.{bytes_at}
use Rattle.base_fields.proofs.Numbered.{Number, Numbered, by-refuse_if, by-and_then}
use Rattle.table_rows.specs.Pattern.{samples_of}
use Rattle.listing_theorem.specs.Samples.{meanings}
use Rattle.listing_theorem.specs.Listing.{listing}
use Rattle.listing_spec.specs.Walk.{TakenTable, sbgp_at, csgp_at}
use Rattle.listing_spec.specs.Group.{group_taken}
use Rattle.listing_spec.specs.Cue.{cue_listing}
use Rattle.table_sbgp.proofs.Numbered.{sbgp-numbered}
use Rattle.table_csgp.proofs.Numbered.{csgp-numbered}
use Rattle.listing_spec.proofs.Taken.{parsed_taken}
use Rattle.listing_spec.proofs.FirmParts.{meanings-by}
use Rattle.listing_spec.proofs.FirmGroup.{group-by}

module _ (s : List ℕ) where
  parsed-numbered : (room : ℕ) (k : TakenTable) → Numbered (parsed_taken s room k)
  parsed-numbered room (sbgp_at b) = sbgp-numbered room (bytes_at s b)
  parsed-numbered room (csgp_at b) = csgp-numbered room (bytes_at s b)

  pub group-numbered : (t room : ℕ) → Numbered (group_taken s t room)
  group-numbered t room = group-by Number Unit s (search rules) t room (λ taken e. parsed-numbered room taken.table)

  pub cue-numbered : (t room size : ℕ) → Numbered (cue_listing s t room size)
  unfolding cue_listing
  cue-numbered t room size =
      by-and_then Number Unit (group_taken s t room) _ (group-numbered t room) (λ g e.
      let indices = samples_of g.patterns in
      by-and_then Number Unit (meanings t g.entries indices) _ (meanings-by Number Unit (search rules) t g.entries indices) (λ ms i.
      by-refuse_if Number Unit (ltb size (length (listing t ms))) 54 _ (search rules) tt))
