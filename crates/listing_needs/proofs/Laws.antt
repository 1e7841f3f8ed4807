-- What the needs of a listing are good for: lent so much it is given, lent fewer rows it is 29, lent fewer bytes 54; and where the needs are refused, so is the
-- listing, whatever is lent.
use mathlib.Core.Path.{◌≡◌, refl, ap, sym, ◌∙◌}
use mathlib.Core.Logic.{inl, inr, ⊎_elim}
use mathlib.Core.List.{List}
use Prim.Native.Nat.{ℕ, ◌<◌, ◌≤◌}
use native.Mathlib.Omega.{arith}
use lib.ListN.{length}
use Rattle.base_fields.specs.Answer as answers
use Rattle.base_fields.specs.Answer.{Answer, given, refused}
use Rattle.base_fields.specs.Span.{Span, bytes_at}
use Rattle.base_fields.proofs.Answers.{given_inj, given-first, refused-first}
use Rattle.base_fields.proofs.Firm.{firm-settled, never-none}
use Rattle.atom_path.specs.Path.{stbl_at}
use Rattle.atom_path.proofs.Numbered.{stbl-answered}
use Rattle.table_rows.specs.Pattern.{samples_of}
use Rattle.table_needed.specs.Needed.{unlimited}
use Rattle.listing_theorem.specs.Meaning.{Meaning}
use Rattle.listing_theorem.specs.Samples.{meanings}
use Rattle.listing_theorem.specs.Listing.{listing}
use Rattle.listing_spec.specs.Group.{Group, group_taken}
use Rattle.listing_spec.specs.Cue.{Cue, cue_listing}
use Rattle.listing_spec.proofs.Stages.{Stages, cue_of, cue-given}
use Rattle.listing_spec.proofs.Refused.{refused-group, refused-meanings, refused-output}
use Rattle.listing_stretches.specs.Entered.{output_limit}
use Rattle.listing_group.proofs.Enough.{enough-firm}
use Rattle.listing_file.specs.File.{file_listing}
use Rattle.listing_file.proofs.From as file
use Rattle.listing_needs.specs.Needs.{Needed, bytes_for, needs_of_listing, file_listing_needs}
use Rattle.listing_needs.specs.Told.{needed_by}
use Rattle.listing_needs.proofs.From.{group-refused, group-needed, file_found, file_refused}
use Rattle.listing_needs.proofs.Replays.{SameOr29}
use Rattle.listing_needs.proofs.Rooms.{group-same, group-with, group-fewer}

-- the cue of a listing that needs n
pub record Fills (n : Needed) (a : Answer Cue) : Type 0 where
  pub cue : Cue
  pub listed : a ≡ given cue
  pub rows : length cue.rows ≡ n.rows
  pub bytes : length cue.bytes ≡ n.bytes

-- as a says of what is lent. No output is longer than `output_limit`
pub record Enough (n : Needed) (a : ℕ → ℕ → Answer Cue) : Type 0 where
  pub enough : (room size : ℕ) → n.rows ≤ room → n.bytes ≤ size → size ≤ output_limit → Fills n (a room size)
  pub rows : (room size : ℕ) → room < n.rows → a room size ≡ refused 29
  pub bytes : (room size : ℕ) → n.rows ≤ room → size < n.bytes → a room size ≡ refused 54

module _ (s : List ℕ) (t : ℕ) where
  -- the stages that give the needs
  record Told (n : Needed) : Type 0 where
    stages : Stages s t unlimited
    needs : n ≡ record { rows = length stages.group.rows; bytes = bytes_for (listing t stages.ms) }

  told : {n : Needed} → needs_of_listing s t ≡ given n → Told n
  unfolding needs_of_listing
  told e =
      let group = given-first (group_taken s t unlimited) _ e in
      let ms = given-first (meanings t group.0.entries (samples_of group.0.patterns)) _ group.2 in
      record { stages = record { group = group.0; ms = ms.0; opens = group.1; meant = ms.1 }; needs = sym (given_inj ms.2) }

  module _ {n : Needed} (e : needs_of_listing s t ≡ given n) (room size : ℕ) where
    abbrev x : Stages s t unlimited
    x = (told e).stages

    rows_are : n.rows ≡ length x.group.rows
    rows_are = ap (λ (m : Needed). m.rows) (told e).needs

    bytes-are : n.bytes ≡ bytes_for (listing t x.ms)
    bytes-are = ap (λ (m : Needed). m.bytes) (told e).needs

    pub needs-rows : room < n.rows → cue_listing s t room size ≡ refused 29
    needs-rows h = refused-group s t room size (group-fewer s room t x.opens (omega (arith, rows_are)))

    -- with as many records
    module _ (rows : n.rows ≤ room) where
      abbrev with : Stages s t room
      with = record { group = x.group; ms = x.ms; opens = group-with s room t x.opens (omega (arith, rows_are)); meant = x.meant }

      pub needs-bytes : size < n.bytes → cue_listing s t room size ≡ refused 54
      needs-bytes h = refused-output s t room size with (omega (arith, bytes-are))

      pub needs-enough : n.bytes ≤ size → size ≤ output_limit → Fills n (cue_listing s t room size)
      needs-enough h l =
          record {
            cue = cue_of with;
            listed = cue-given s t room size with (omega (arith, bytes-are));
            rows = sym rows_are;
            bytes = omega (arith, bytes-are);
          }

  pub listing-enough : {n : Needed} → needs_of_listing s t ≡ given n → Enough n (cue_listing s t)
  listing-enough e =
      record {
        enough = λ room size r b l. needs-enough e room size r b l;
        rows = λ room size r. needs-rows e room size r;
        bytes = λ room size r b. needs-bytes e room size r b;
      }

  -- where the needs are refused
  pub needs-refused : {n : ℕ} → needs_of_listing s t ≡ refused n → (room size : ℕ) → SameOr29 (cue_listing s t room size) (refused n)
  unfolding needed_by
  needs-refused {n} e room size =
      ⊎_elim {C = SameOr29 (cue_listing s t room size) (refused n)} (λ same. by (group_taken s t unlimited) refl same) (λ few. inr (refused-group s t room size few))
      (group-same s room t)
    where
      by : (a : Answer Group) → group_taken s t unlimited ≡ a → group_taken s t room ≡ group_taken s t unlimited → SameOr29 (cue_listing s t room size) (refused n)
      by (given g) f same =
          let needed : List Meaning → Needed = λ ms. record { rows = length g.rows; bytes = bytes_for (listing t ms) } in
          let refuses = refused-first (meanings t g.entries (samples_of g.patterns)) needed (sym (group-needed s t f) ∙ e) in
          inl (refused-meanings s t room size (same ∙ f) refuses)
      by answers.none f same = absurd (never-none (group_taken s t unlimited) (firm-settled (group_taken s t unlimited) (enough-firm s t)) f)
      by (refused m) f same = let z : ◌≡◌ {A = Answer Needed} (refused m) (refused n) = group-refused s t f ∙ e in
          let w : m ≡ n = cc in
          inl (refused-group s t room size (same ∙ f ∙ ap refused w))

-- of a film
module _ (s : List ℕ) (k t : ℕ) where
  pub file_listing-enough : {n : Needed} → file_listing_needs s k t ≡ given n → Enough n (file_listing s k t)
  unfolding file_listing_needs
  file_listing-enough e =
      let first = given-first (stbl_at s k) _ e in
      let b = first.0 in
      let inner = listing-enough (bytes_at s b) t first.2 in
      record {
        enough = λ room size r l m. rw (file.file_found s k t room size first.1) (inner.enough room size r l m);
        rows = λ room size r. file.file_found s k t room size first.1 ∙ inner.rows room size r;
        bytes = λ room size r l. file.file_found s k t room size first.1 ∙ inner.bytes room size r l;
      }

  pub file_needs_refused : {n : ℕ} → file_listing_needs s k t ≡ refused n → (room size : ℕ) → SameOr29 (file_listing s k t room size) (refused n)
  file_needs_refused {n} e room size = by (stbl_at s k) refl
    where
      by : (a : Answer Span) → stbl_at s k ≡ a → SameOr29 (file_listing s k t room size) (refused n)
      by (given b) f = rw (file.file_found s k t room size f) (needs-refused (bytes_at s b) t (sym (file_found s k t f) ∙ e) room size)
      by answers.none f = absurd (stbl-answered s k f)
      by (refused m) f = let z : ◌≡◌ {A = Answer Needed} (refused m) (refused n) = file_refused s k t f ∙ e in
          let w : m ≡ n = cc in
          inl (file.file_refused s k t room size f ∙ ap refused w)
