-- For a caller: the listing that an accepted call tells lies within the output.
use mathlib.Core.Path.{◌≡◌, refl}
use mathlib.Core.List.{List}
use Prim.Native.Nat.{ℕ, ◌≤◌}
use native.Mathlib.Omega.{arith}
use lib.ListN.{length}
use Rattle.base_fields.specs.Answer as answer
use Rattle.base_fields.specs.Answer.{Answer, given, refused}
use Rattle.std.specs.Prelude.{Result, Ok}
use Rattle.base_fields.specs.declared.refusal.Refusal.{Refusal}
use Rattle.base_fields.specs.Span.{Span, bytes_at}
use Rattle.atom_path.specs.Path.{stbl_at}
use Rattle.listing_cue.specs.Told.{GivesCue}
use Rattle.listing_cue.specs.declared.CueLengths.{CueLengths}
use Rattle.listing_cue.proofs.Fits.{listing-fits}
use Rattle.listing_file.specs.File.{file_listing, file_call}

module _ (s : List ℕ) (k t : ℕ) (rows out : List ℕ) where
  by : {rows' out' : List ℕ} {r : Result CueLengths Refusal} (n : CueLengths) → GivesCue (file_call s k t rows out) rows rows' out out' r → r ≡ Ok n
      → (found : Answer Span) → stbl_at s k ≡ found → n.listing ≤ length out
  unfolding file_listing
  by n g e (given b) f = listing-fits (bytes_at s b) t rows out n (rw f at g) e
  by n g e answer.none f = let told = rw (e, f) at g.answer in let z : ◌≡◌ {A = ℕ} 0 1 = cc in absurd (omega arith)
  by n g e (refused m) f = let told = rw (e, f) at g.answer in let z : ◌≡◌ {A = ℕ} 0 1 = cc in absurd (omega arith)

  pub file_fits : {rows' out' : List ℕ} {r : Result CueLengths Refusal} (n : CueLengths) → GivesCue (file_call s k t rows out) rows rows' out out' r → r ≡ Ok n
      → n.listing ≤ length out
  file_fits n g e = by n g e (stbl_at s k) refl
