-- The group of a sample refuses with document 01's numbers, other than 29 and 54: none is 0 or 255.
use mathlib.Core.Path.{◌≡◌}
use mathlib.Core.List.{List}
use Prim.Native.Nat.{ℕ}
use borrow.Author.Rules.{rules}
use lib.Dec.{leb}
use Rattle.base_fields.specs.Answer.{refused}
use Rattle.base_fields.specs.Span.{bytes_at}
use Rattle.base_fields.proofs.Numbered.{Number, RefusesBy, Numbered, by-refuse_if, by-and_then}
use Rattle.base_fields.proofs.Firm.{Other, Firm, firm-never_29}
use Rattle.atom_path.specs.Path.{stbl_at}
use Rattle.atom_path.proofs.Numbered.{stbl-numbered, stbl-firm}
use Rattle.table_rows.specs.Pattern.{covered_by}
use Rattle.table_needed.specs.Needed.{unlimited}
use Rattle.listing_spec.specs.Group.{group_taken}
use Rattle.listing_spec.proofs.Numbered.{group-numbered}
use Rattle.listing_group.proofs.Enough.{enough-firm}
use Rattle.use_sample_group.specs.SampleGroup.{sample_group, file_sample_group}

-- the group's numbers, and 62
module _ (R : ℕ → Type 0) (N : Type 0) (s : List ℕ) (t k : ℕ) where
  sample-by : R 62 → RefusesBy R N (group_taken s t unlimited) → RefusesBy R N (sample_group s t k)
  unfolding sample_group
  sample-by r group =
      by-and_then R N (group_taken s t unlimited) _ group (λ g e. by-refuse_if R N (leb (covered_by g.patterns) k) 62 _ r tt)

module _ (s : List ℕ) (t k : ℕ) where
  pub sample-group-numbered : Numbered (sample_group s t k)
  sample-group-numbered = sample-by Number Unit s t k (search rules) (group-numbered s t unlimited)

  pub sample-group-firm : Firm (sample_group s t k)
  sample-group-firm = sample-by Other ⊥ s t k (search rules) (enough-firm s t)

  pub sample-group-never_29 : sample_group s t k ≡ refused 29 → ⊥
  sample-group-never_29 = firm-never_29 (sample_group s t k) sample-group-firm

-- of a film
module _ (s : List ℕ) (n t k : ℕ) where
  pub file_sample_group-numbered : Numbered (file_sample_group s n t k)
  unfolding file_sample_group
  file_sample_group-numbered =
      by-and_then Number Unit (stbl_at s n) _ (stbl-numbered s n) (λ b e.
      by-and_then Number Unit (sample_group (bytes_at s b) t k) _ (sample-group-numbered (bytes_at s b) t k) (λ g f. tt))

  pub file_sample_group-firm : Firm (file_sample_group s n t k)
  unfolding file_sample_group
  file_sample_group-firm =
      by-and_then Other ⊥ (stbl_at s n) _ (stbl-firm s n) (λ b e.
      by-and_then Other ⊥ (sample_group (bytes_at s b) t k) _ (sample-group-firm (bytes_at s b) t k) (λ g f. tt))
