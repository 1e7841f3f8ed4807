-- The listing of a film refuses with the papers' numbers: none is 0 or 255.
use mathlib.Core.List.{List}
use Prim.Native.Nat.{ℕ}
use Rattle.base_fields.specs.Span.{bytes_at}
use Rattle.base_fields.proofs.Numbered.{Number, Numbered, by-and_then}
use Rattle.atom_path.specs.Path.{stbl_at}
use Rattle.atom_path.proofs.Numbered.{stbl-numbered}
use Rattle.listing_spec.proofs.Numbered.{cue-numbered}
use Rattle.listing_file.specs.File.{file_listing}

pub file_numbered : (s : List ℕ) (k t room size : ℕ) → Numbered (file_listing s k t room size)
unfolding file_listing
file_numbered s k t room size =
    by-and_then Number Unit (stbl_at s k) _ (stbl-numbered s k) (λ b e. cue-numbered (bytes_at s b) t room size)
