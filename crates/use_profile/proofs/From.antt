-- The verdict on a group, by what the decoders refuse and what is seen of its samples.
use mathlib.Core.Path.{◌≡◌, refl, ap, sym, ◌∙◌}
use mathlib.Core.List.{List}
use Prim.Native.Nat.{ℕ}
use Rattle.base_fields.specs.Answer.{Answer, given, refused, and_then}
use Rattle.table_rows.specs.Pattern.{samples_of, covered_by}
use Rattle.table_views.specs.Used.{Filled, used_in, first_refusal}
use Rattle.table_views.proofs.Used.{used-refusal}
use Rattle.listing_theorem.specs.Samples.{meaning_of}
use Rattle.listing_spec.specs.Table.{entries_of}
use Rattle.listing_spec.specs.Group.{Group}
use Rattle.use_profile.specs.Profile.{t, breaks}
use Rattle.use_profile.specs.Survey.{Survey, kind_told, kind_by, kind_in, survey, verdict_by}
use Rattle.use_profile.specs.From.{surveyed_from, verdict_of}
use Rattle.use_profile.specs.declared.SampleKind.{SampleKind}

module _ (g : Group) (filled : Filled g.patterns) where
  -- the used positions are refused as all samples are
  refusals : first_refusal (meaning_of t g.entries) (samples_of g.patterns) ≡ first_refusal (meaning_of t g.entries) (used_in g.patterns)
  refusals = used-refusal (meaning_of t g.entries) g.patterns filled

  pub from-decoders : {n : ℕ} → refused n ≡ first_refusal (meaning_of t g.entries) (used_in g.patterns) → verdict_of (surveyed_from g) ≡ breaks 1
  unfolding surveyed_from
  from-decoders e = rw (refusals, ← e) refl

  -- s is the sgpd's payload
  module _ (s : List ℕ) (read : entries_of s ≡ given g.entries) where
    kinds : kind_in s ≡ kind_by g.entries
    kinds = ap {B = ℕ → SampleKind} (λ (a : Answer (List (List ℕ))) (i : ℕ). kind_told (and_then a (λ es. meaning_of t es i))) read

    pub from-seen : given tt ≡ first_refusal (meaning_of t g.entries) (used_in g.patterns) → {n : ℕ} {y : Survey}
        → n ≡ covered_by g.patterns → y ≡ survey (kind_in s) (samples_of g.patterns) → verdict_of (surveyed_from g) ≡ verdict_by n y
    unfolding surveyed_from
    from-seen e {n} {y} m q =
        let told : y ≡ survey (kind_by g.entries) (samples_of g.patterns) = q ∙ ap (λ (f : ℕ → SampleKind). survey f (samples_of g.patterns)) kinds in
        let passed : first_refusal (meaning_of t g.entries) (samples_of g.patterns) ≡ given tt = refusals ∙ sym e in
        rw (passed, m, told) refl
