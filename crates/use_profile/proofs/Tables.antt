-- The patterns of a table entered one after the other.
use mathlib.Core.Path.{◌≡◌, refl, ap, sym, ◌∙◌}
use mathlib.Core.List.{List, [], ◌∷◌, ◌++◌, append_assoc, append-nil}
use Prim.Native.Nat.{ℕ, ◌+◌, ◌≤◌}
use native.Mathlib.Omega.{arith}
use lib.ListN.{length, length-append}
use Rattle.table_rows.specs.Pattern.{Pattern, samples_from, samples_of, covered_by}
use Rattle.table_rows.proofs.Samples.{covered_by-samples, samples_from-length}
use Rattle.table_runs.specs.Ahead.{all_in, ahead_in}
use Rattle.table_runs.specs.declared.SampleTable.{SampleTable}
use Rattle.table_csgp_head.specs.declared.PatternsAt.{PatternsAt}
use Rattle.use_profile.specs.Survey.{Survey, kind_in, survey, survey_join, nothing_seen}
use Rattle.use_profile.proofs.Surveys.{survey-empty, survey_append}

-- x is what is seen of the samples before those of the patterns ps, of all samples of `all`
pub record EnteredOf (all ps : List Pattern) (s : List ℕ) (x : Survey) : Type 0 where
  pub before : List ℕ
  pub parts : samples_of all ≡ before ++ samples_of ps
  pub seen : x ≡ survey (kind_in s) before

abbrev pub Entered : List ℕ → SampleTable → List ℕ → PatternsAt → Survey → Type 0
Entered ts table s here x = EnteredOf (ahead_in ts table (all_in table)) (ahead_in ts table here) s x

module _ (s : List ℕ) (all : List Pattern) where
  pub entered-none : {x : Survey} → x ≡ nothing_seen → EnteredOf all all s x
  entered-none e = record { before = []; parts = refl; seen = e ∙ sym (survey-empty (kind_in s)) }

  -- one pattern more
  pub entered-more : {ps : List Pattern} {p : Pattern} {rest : List Pattern} {x y z : Survey} → EnteredOf all ps s x → ps ≡ p ∷ rest
      → y ≡ survey (kind_in s) (samples_from p 0 p.count) → z ≡ survey_join x y → EnteredOf all rest s z
  unfolding samples_of
  entered-more {ps} {p} {rest} {x} {y} {z} a e f g =
      let own = samples_from p 0 p.count in
      record {
        before = a.before ++ own;
        parts = a.parts ∙ ap (λ (q : List Pattern). a.before ++ samples_of q) e ∙ sym (append_assoc a.before own (samples_of rest));
        seen =
            g ∙ ap (λ (w : Survey). survey_join w y) a.seen
            ∙ ap (survey_join (survey (kind_in s) a.before)) f ∙ sym (survey_append (kind_in s) a.before own);
      }

  pub entered_all : {ps : List Pattern} {x : Survey} → EnteredOf all ps s x → ps ≡ [] → x ≡ survey (kind_in s) (samples_of all)
  unfolding samples_of
  entered_all a e = a.seen ∙ ap (survey (kind_in s)) (sym (a.parts ∙ ap (λ (q : List Pattern). a.before ++ samples_of q) e ∙ append-nil a.before))

  -- with the next pattern's they are no more than all
  pub entered-few : {ps : List Pattern} {p : Pattern} {rest : List Pattern} {x : Survey} (a : EnteredOf all ps s x) → ps ≡ p ∷ rest
      → length a.before + p.count ≤ covered_by all
  unfolding samples_of
  entered-few {p = p} {rest = rest} a e =
      let own = samples_from p 0 p.count in
      let parts : samples_of all ≡ a.before ++ (own ++ samples_of rest) = a.parts ∙ ap (λ (q : List Pattern). a.before ++ samples_of q) e in
      omega (
        arith,
        covered_by-samples all,
        ap (λ (l : List ℕ). length l) parts,
        length-append a.before (own ++ samples_of rest),
        length-append own (samples_of rest),
        samples_from-length p 0 p.count,
      )
