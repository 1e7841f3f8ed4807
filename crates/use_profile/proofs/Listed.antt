-- Rule 1: the listing is given for long enough buffers exactly where its stages before the bytes give something.
use mathlib.Core.Path.{◌≡◌, refl, ap, sym, ◌∙◌}
use mathlib.Core.Logic.{◌↔◌, ⊎_elim}
use mathlib.Core.List.{List}
use Prim.Native.Nat.{ℕ, ◌≤◌}
use native.Mathlib.Omega.{arith}
use lib.ListN.{length}
use Rattle.base_fields.specs.Answer.{Answer, given, and_then}
use Rattle.base_fields.proofs.Answers.{given_inj, given-first}
use Rattle.base_fields.proofs.Firm.{firm-never_29}
use Rattle.table_rows.specs.Pattern.{samples_of}
use Rattle.table_needed.specs.Needed.{unlimited}
use Rattle.table_views.specs.Used.{first_refusal}
use Rattle.table_views.proofs.Collected.{collect-refusal}
use Rattle.listing_theorem.specs.Meaning.{Meaning}
use Rattle.listing_theorem.specs.Samples.{meaning_of, meanings}
use Rattle.listing_theorem.specs.Listing.{listing}
use Rattle.listing_spec.specs.Group.{Group, group_taken}
use Rattle.listing_spec.specs.Cue.{Cue, cue_listing}
use Rattle.listing_spec.proofs.Stages.{Stages, accepted, cue_of, cue-given}
use Rattle.listing_spec.proofs.Rooms.{group-again}
use Rattle.listing_spec.proofs.Buffers.{Mendable, Acceptable, acceptable, cue-longer}
use Rattle.listing_meanings.proofs.Sampled.{meanings-collect}
use Rattle.listing_group.proofs.Enough.{enough-firm}
use Rattle.use_profile.specs.Profile.{t, Listed}
use Rattle.use_profile.specs.From.{Surveyed, survey_of_group, surveyed_from, surveyed_in}

module _ (s : List ℕ) where
  -- what the listing's own laws call acceptable
  pub listed-acceptable : Listed s ↔ Acceptable s t
  listed-acceptable = (λ l. l, λ a. a)

  -- longer buffers change nothing
  pub listed-longer : Listed s
      → (room : ℕ) × (size : ℕ) × ((more longer : ℕ) → room ≤ more → size ≤ longer → (c : Cue) × (cue_listing s t more longer ≡ given c))
  listed-longer l = (l.0, l.1, λ more longer h k. (l.2, cue-longer s t l.0 l.1 more longer l.3 h k))

  -- whatever is lent, no refusal comes but 29 and 54
  pub listed_mended : Listed s ↔ ((room size : ℕ) → Mendable (cue_listing s t room size))
  listed_mended = acceptable s t

  refusals : (entries : List (List ℕ)) (l : List ℕ) → and_then (meanings t entries l) (λ ms. given tt) ≡ first_refusal (meaning_of t entries) l
  refusals entries l = ap (λ (x : Answer (List Meaning)). and_then x (λ ms. given tt)) (meanings-collect t entries l) ∙ collect-refusal (meaning_of t entries) l

  -- where the stages give something
  pub record Surveys (x : Surveyed) : Type 0 where
    pub stages : Stages s t unlimited
    pub is : x ≡ survey_of_group stages.group

  pub surveys : {x : Surveyed} → surveyed_in s ≡ given x → Surveys x
  unfolding surveyed_in surveyed_from
  surveys e =
      let group = given-first (group_taken s t unlimited) surveyed_from e in
      let g = group.0 in
      let passed = given-first (first_refusal (meaning_of t g.entries) (samples_of g.patterns)) _ group.2 in
      let ms = given-first (meanings t g.entries (samples_of g.patterns)) _ (refusals g.entries (samples_of g.patterns) ∙ passed.1) in
      record { stages = record { group = g; ms = ms.0; opens = group.1; meant = ms.1 }; is = sym (given_inj passed.2) }

  pub surveyed-listed : {x : Surveyed} → Surveys x → Listed s
  surveyed-listed v =
      let x = v.stages in
      let size = length (listing t x.ms) in
      (unlimited, size, cue_of x, cue-given s t unlimited size x (omega arith))

  -- a group that was opened, where records never run out
  again : (room : ℕ) {g : Group} → group_taken s t room ≡ given g → group_taken s t unlimited ≡ given g
  again room {g} e =
      ⊎_elim {C = group_taken s t unlimited ≡ given g} (λ f. f) (λ f. absurd (firm-never_29 (group_taken s t unlimited) (enough-firm s t) f.1))
      (group-again room unlimited s t e)

  pub listed-surveyed : Listed s → (x : Surveyed) × (surveyed_in s ≡ given x)
  unfolding surveyed_in surveyed_from
  listed-surveyed l =
      let x = (accepted s t l.0 l.1 l.3).stages in
      let g = x.group in
      let meant = ap (λ (a : Answer (List Meaning)). and_then a (λ ms. given tt)) x.meant in
      let passed = sym (refusals g.entries (samples_of g.patterns)) ∙ meant in
      (survey_of_group g, rw (again l.0 x.opens, passed) refl)
