-- What is lent decides between the listing of a film, 29 and 54, and nothing else: the laws of the body that the search finds. The search itself is
-- lent nothing.
use mathlib.Core.Path.{◌≡◌}
use mathlib.Core.Logic.{◌↔◌}
use mathlib.Core.List.{List}
use Prim.Native.Nat.{ℕ, ◌≤◌}
use Rattle.base_fields.specs.Answer.{given}
use Rattle.base_fields.specs.Span.{Span, bytes_at}
use Rattle.base_fields.proofs.Answers.{given-first}
use Rattle.atom_path.specs.Path.{stbl_at}
use Rattle.atom_path.proofs.Numbered.{stbl-firm}
use Rattle.listing_spec.specs.Cue.{Cue, cue_listing}
use Rattle.listing_spec.proofs.Buffers.{Limited, Mendable, Acceptable, cue-again, cue-longer, acceptable, mends_past, mends_first}
use Rattle.listing_file.specs.File.{file_listing}
use Rattle.listing_file.proofs.From.{file_found}

module _ (s : List ℕ) (k t : ℕ) where
  -- a film that is listed has an stbl, whose body is listed
  listed : (room size : ℕ) {c : Cue} → file_listing s k t room size ≡ given c → (b : Span) × (stbl_at s k ≡ given b) × (cue_listing (bytes_at s b) t room size ≡ given c)
  unfolding file_listing
  listed room size e = given-first (stbl_at s k) _ e

  module _ (more longer room size : ℕ) {c : Cue} (e : file_listing s k t more longer ≡ given c) where
    pub file_again : Limited more room longer size c (file_listing s k t room size)
    file_again =
        let x = listed more longer e in
        rw (file_found s k t room size x.1) (cue-again (bytes_at s x.0) t more longer room size x.2)

    -- longer buffers change nothing
    pub file_longer : more ≤ room → longer ≤ size → file_listing s k t room size ≡ given c
    file_longer h l =
        let x = listed more longer e in
        rw (file_found s k t room size x.1) (cue-longer (bytes_at s x.0) t more longer room size x.2 h l)

  -- given with some rows and output lent
  abbrev pub FileAcceptable : Type 0
  FileAcceptable = (room : ℕ) × (size : ℕ) × (c : Cue) × (file_listing s k t room size ≡ given c)

  -- as the body is that was found
  module _ {b : Span} (found : stbl_at s k ≡ given b) where
    mendable : (room size : ℕ) → Mendable (cue_listing (bytes_at s b) t room size) → Mendable (file_listing s k t room size)
    mendable room size m = rw (file_found s k t room size found) m

    given-again : Acceptable (bytes_at s b) t → FileAcceptable
    given-again a = (a.0, a.1, a.2, rw (file_found s k t a.0 a.1 found) a.3)

  enough : ((room size : ℕ) → Mendable (file_listing s k t room size)) → FileAcceptable
  unfolding file_listing
  enough m =
      let x = mends_first (stbl_at s k) _ (stbl-firm s k) (m 0 0) in
      given-again x.1 ((acceptable (bytes_at s x.0) t).1 (λ room size. mends_past (stbl_at s k) _ x.1 (m room size)))

  -- a film is accepted with some rows and output if and only if, whatever is lent, no refusal comes but 29 and 54
  pub file_acceptable : FileAcceptable ↔ ((room size : ℕ) → Mendable (file_listing s k t room size))
  file_acceptable = (
    λ a room size.
        let x = listed a.0 a.1 a.3 in
        mendable x.1 room size ((acceptable (bytes_at s x.0) t).0 (a.0, a.1, a.2, x.2) room size),
    enough,
  )
