-- The needs of a listing are refused with document 01's numbers, other than 29 and 54: none is 0 or 255.
use mathlib.Core.Path.{◌≡◌, refl}
use mathlib.Core.List.{List}
use Prim.Native.Nat.{ℕ}
use borrow.Author.Rules.{rules}
use borrow.Author.Tests.{eqb-false}
use Rattle.base_fields.specs.Answer.{refused}
use Rattle.base_fields.specs.Span.{bytes_at}
use Rattle.base_fields.proofs.Numbered.{Number, RefusesBy, Numbered, by-and_then}
use Rattle.base_fields.proofs.Firm.{Other, Firm, firm-never_29}
use Rattle.atom_path.specs.Path.{stbl_at}
use Rattle.atom_path.proofs.Numbered.{stbl-numbered, stbl-firm}
use Rattle.table_rows.specs.Pattern.{samples_of}
use Rattle.table_needed.specs.Needed.{unlimited}
use Rattle.listing_theorem.specs.Samples.{meanings}
use Rattle.listing_spec.specs.Group.{Group, group_taken}
use Rattle.listing_spec.proofs.FirmParts.{meanings-by}
use Rattle.listing_spec.proofs.Numbered.{group-numbered}
use Rattle.listing_group.proofs.Enough.{enough-firm}
use Rattle.listing_needs.specs.Needs.{needs_of_listing, file_listing_needs}

-- the group's numbers, and the decoders'
module _ (R : ℕ → Type 0) (N : Type 0) (s : List ℕ) (t : ℕ) where
  needs-by : RefusesBy R N (group_taken s t unlimited) → ((g : Group) → RefusesBy R N (meanings t g.entries (samples_of g.patterns))) → RefusesBy R N (needs_of_listing s t)
  unfolding needs_of_listing
  needs-by group meant =
      by-and_then R N (group_taken s t unlimited) _ group (λ g e. by-and_then R N (meanings t g.entries (samples_of g.patterns)) _ (meant g) (λ ms f. tt))

module _ (s : List ℕ) (t : ℕ) where
  pub needs-numbered : Numbered (needs_of_listing s t)
  needs-numbered =
      needs-by Number Unit s t (group-numbered s t unlimited) (λ g. meanings-by Number Unit (search rules) t g.entries (samples_of g.patterns))

  pub needs-firm : Firm (needs_of_listing s t)
  needs-firm = needs-by Other ⊥ s t (enough-firm s t) (λ g. meanings-by Other ⊥ (search rules) t g.entries (samples_of g.patterns))

  pub needs-never_29 : needs_of_listing s t ≡ refused 29 → ⊥
  needs-never_29 = firm-never_29 (needs_of_listing s t) needs-firm

  pub needs-never_54 : needs_of_listing s t ≡ refused 54 → ⊥
  needs-never_54 e = let o : Other 54 = rw e at needs-firm in eqb-false 54 54 o.1 refl

-- of a film
module _ (s : List ℕ) (k t : ℕ) where
  pub file_needs_numbered : Numbered (file_listing_needs s k t)
  unfolding file_listing_needs
  file_needs_numbered = by-and_then Number Unit (stbl_at s k) _ (stbl-numbered s k) (λ b e. needs-numbered (bytes_at s b) t)

  pub file_needs_firm : Firm (file_listing_needs s k t)
  unfolding file_listing_needs
  file_needs_firm = by-and_then Other ⊥ (stbl_at s k) _ (stbl-firm s k) (λ b e. needs-firm (bytes_at s b) t)
