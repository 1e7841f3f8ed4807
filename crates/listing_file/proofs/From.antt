-- The listing of a film by what the search for its stbl answers.
use mathlib.Core.Path.{◌≡◌, refl}
use mathlib.Core.List.{List}
use Prim.Native.Nat.{ℕ}
use Rattle.base_fields.specs.Answer.{given, refused}
use Rattle.base_fields.specs.Span.{Span, bytes_at}
use Rattle.atom_path.specs.Path.{stbl_at}
use Rattle.listing_spec.specs.Cue.{cue_listing}
use Rattle.listing_file.specs.File.{file_listing}

module _ (s : List ℕ) (k t room size : ℕ) where
  pub file_found : {b : Span} → stbl_at s k ≡ given b → file_listing s k t room size ≡ cue_listing (bytes_at s b) t room size
  unfolding file_listing
  file_found e = rw e refl

  pub file_refused : {n : ℕ} → stbl_at s k ≡ refused n → file_listing s k t room size ≡ refused n
  unfolding file_listing
  file_refused e = rw e refl
