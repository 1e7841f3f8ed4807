-- The listing of a film is given or refused, never none.
use mathlib.Core.Path.{◌≡◌}
use mathlib.Core.List.{List}
use Prim.Native.Nat.{ℕ}
use Rattle.base_fields.specs.Answer.{none}
use Rattle.base_fields.specs.Span.{bytes_at}
use Rattle.base_fields.proofs.Numbered.{by-and_then}
use Rattle.base_fields.proofs.Firm.{Settled, firm-settled, never-none}
use Rattle.atom_path.specs.Path.{stbl_at}
use Rattle.atom_path.proofs.Numbered.{stbl-firm}
use Rattle.listing_spec.proofs.Answered.{cue-settled}
use Rattle.listing_file.specs.File.{file_listing}

module _ (s : List ℕ) (k t room size : ℕ) where
  settled : Settled (file_listing s k t room size)
  unfolding file_listing
  settled = by-and_then (λ n. Unit) ⊥ (stbl_at s k) _ (firm-settled (stbl_at s k) (stbl-firm s k)) (λ b e. cue-settled (bytes_at s b) t room size)

  pub file_answered : file_listing s k t room size ≡ none → ⊥
  file_answered e = never-none (file_listing s k t room size) settled e
