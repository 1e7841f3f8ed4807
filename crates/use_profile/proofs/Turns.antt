-- A pattern's positions entered one by one, up to the end of a turn; then its whole turns and the cut one behind them.
use mathlib.Core.Path.{◌≡◌, refl, ap, sym, ◌∙◌}
use mathlib.Core.Bool.{Bool}
use Prim.Native.Nat.{ℕ, ◌+◌, ◌*◌, ◌/◌, ◌%◌, ◌≤◌, ◌<◌, min}
use native.Mathlib.Nat.{mod-lt, mod-le, div-add-mod', div-eq_of_lt, mul-le-mul_left}
use native.Mathlib.Numerals.{add-one}
use native.Mathlib.Decide.{dec_lt}
use native.Mathlib.Omega.{arith}
use borrow.Author.Tests.{le-leb, lt-leb}
use mathlib.Core.List.{List}
use lib.Dec.{leb}
use lib.ListN.{length, get_or, take}
use lib.Seq.{take-suc, take_all}
use Rattle.base_fields.specs.Answer.{choose}
use Rattle.table_rows.specs.Pattern.{Pattern, samples_from}
use Rattle.table_views.specs.Used.{used, repeat}
use Rattle.table_views.specs.Stretches.{Summary, whole, summary, no_samples_of, join, times, summary_of}
use Rattle.table_views.proofs.Stretches.{summary-empty}
use Rattle.table_views.proofs.Summaries.{summary-repeat}
use Rattle.table_views.proofs.Whole.{repeat-length}
use Rattle.use_profile.specs.Survey.{Survey, survey, survey_step, survey_of, is_gap, is_known, is_found, told_gaps, told_seen, AtMost}
use Rattle.use_profile.specs.declared.SampleKind.{SampleKind}
use Rattle.use_profile.specs.declared.Gaps.{Gaps}
use Rattle.use_profile.specs.declared.Seen.{Seen}
use Rattle.use_profile.proofs.Surveys.{survey-step, survey-pattern}
use Rattle.use_profile.proofs.Steps.{seen_same}
use Rattle.use_profile.proofs.Sizes.{at_most}

pub cut-none : (gap : ℕ → Bool) (l : List ℕ) (cut : ℕ) → summary gap (take (min 0 cut) l) ≡ no_samples_of
cut-none gap l cut = let z : min 0 cut ≡ 0 = omega arith in ap (λ (n : ℕ). summary gap (take n l)) z ∙ summary-empty gap

-- one position more: up to the cut it is seen of the last turn too
pub cut-more : (gap : ℕ → Bool) (l : List ℕ) (i cut : ℕ) {here before r : Summary}
    → here ≡ summary gap (take (i + 1) l) → before ≡ summary gap (take (min i cut) l) → r ≡ choose (leb (i + 1) cut) here before
    → r ≡ summary gap (take (min (i + 1) cut) l)
cut-more gap l i cut {here} {before} h b e =
    elim (dec_lt cut (i + 1)) [
      | yes k ↦
          let m : min i cut ≡ min (i + 1) cut = omega (arith, k) in
          e ∙ ap (λ (t : Bool). choose t here before) (lt-leb (i + 1) cut k) ∙ b ∙ ap (λ (n : ℕ). summary gap (take n l)) m
      | no k ↦
          let q : i + 1 ≤ cut = omega (arith, k) in
          let m : i + 1 ≡ min (i + 1) cut = omega (arith, q) in
          e ∙ ap (λ (t : Bool). choose t here before) (le-leb (i + 1) cut q) ∙ h ∙ ap (λ (n : ℕ). summary gap (take n l)) m
    ]

-- no more turns than the count
pub turns-few : (c n k : ℕ) → k ≤ n → c / n * k ≤ c
turns-few c n k h = omega (arith, mul-le-mul_left (c / n) h, div-add-mod' c n)

-- the cut is at a used position, or behind the last one
pub cut-used : (c n : ℕ) → 0 < n → min (min n c) (c % n) ≡ c % n
cut-used c n h = omega (arith, mod-lt c h, mod-le c n)

-- a turn that is seen up to its used positions is seen whole where there is a whole one
pub turns-whole : (gap : ℕ → Bool) (l : List ℕ) (c : ℕ) → times (c / length l) (summary gap (take (min (length l) c) l)) ≡ times (c / length l) (summary gap l)
unfolding times
turns-whole gap l c =
    elim (dec_lt c (length l)) [
      | yes h ↦ let z : c / length l ≡ 0 = div-eq_of_lt h in rw z refl
      | no h ↦ rw (take_all (min (length l) c) l (omega (arith, h))) refl
    ]

module _ (f : ℕ → SampleKind) where
  abbrev pub gap_by : ℕ → Bool
  gap_by i = is_gap (f i)

  pub survey-more : (l : List ℕ) (i : ℕ) {k : SampleKind} {x r : Survey} → i < length l → k ≡ f (get_or l i 0) → x ≡ survey f (take i l) → r ≡ survey_step k x
      → r ≡ survey f (take (i + 1) l)
  survey-more l i {k} {x} h e d q =
      q ∙ ap (λ (j : SampleKind). survey_step j x) e ∙ ap (survey_step (f (get_or l i 0))) d ∙ sym (survey-step f (take i l) (get_or l i 0))
      ∙ ap (survey f) (sym (take-suc l i 0 h)) ∙ ap (λ (n : ℕ). survey f (take n l)) (sym (add-one i))

  pub survey-gaps : {x : Survey} (l : List ℕ) → x ≡ survey f l → x.gaps ≡ summary gap_by l
  unfolding survey
  survey-gaps l e = ap (λ (y : Survey). y.gaps) e

  pub seen-at-most : (l : List ℕ) (n : ℕ) (x : Seen) → told_seen x ≡ survey f l → length l ≤ n → AtMost n x.gaps
  seen-at-most l n x e h = at_most gap_by l n x.gaps (survey-gaps l e) h

  -- the whole turns in a row
  pub turns-at-most : (l : List ℕ) (c : ℕ) (g : Gaps) → told_gaps g ≡ times (c / length l) (summary gap_by (take (min (length l) c) l))
      → (n : ℕ) → c ≤ n → AtMost n g
  turns-at-most l c g e n h =
      at_most gap_by (repeat (c / length l) l) n g (e ∙ turns-whole gap_by l c ∙ sym (summary-repeat gap_by (c / length l) l))
      (omega (arith, repeat-length (c / length l) l, turns-few c (length l) (length l) (omega arith), h))

  pub survey-turns : (p : Pattern) → 0 < length p.indices → {turn : Survey} {last all : Summary}
      → turn ≡ survey f (take (min (length p.indices) p.count) p.indices)
      → last ≡ summary gap_by (take (min (min (length p.indices) p.count) (p.count % length p.indices)) p.indices)
      → all ≡ join (times (p.count / length p.indices) turn.gaps) last
      → record { gaps = all; known = turn.known; found = turn.found } ≡ survey f (samples_from p 0 p.count)
  unfolding survey survey_of summary_of used
  survey-turns p h {turn} {last} {all} e d j =
      let l = p.indices in
      let c = p.count in
      let n = length l in
      let taken : take c l ≡ take (min n c) l = used-taken l c in
      let gaps : turn.gaps ≡ summary gap_by (take (min n c) l) = ap (λ (y : Survey). y.gaps) e in
      let known : turn.known ≡ whole (λ i. is_known (f i)) (take c l) = ap (λ (y : Survey). y.known) e ∙ ap (whole (λ i. is_known (f i))) (sym taken) in
      let found : turn.found ≡ whole (λ i. is_found (f i)) (take c l) = ap (λ (y : Survey). y.found) e ∙ ap (whole (λ i. is_found (f i))) (sym taken) in
      let cut : last ≡ summary gap_by (take (c % n) l) = d ∙ ap (λ (k : ℕ). summary gap_by (take k l)) (cut-used c n h) in
      let turns : times (c / n) turn.gaps ≡ times (c / n) (summary gap_by l) = ap (times (c / n)) gaps ∙ turns-whole gap_by l c in
      let whole-gaps : all ≡ summary_of gap_by p = j ∙ ap (λ (s : Summary). join s last) turns ∙ ap (join (times (c / n) (summary gap_by l))) cut in
      seen_same whole-gaps known found ∙ sym (survey-pattern f p h)
    where
      used-taken : (l : List ℕ) (c : ℕ) → take c l ≡ take (min (length l) c) l
      used-taken l c =
          elim (dec_lt c (length l)) [
            | yes k ↦ let m : c ≡ min (length l) c = omega (arith, k) in ap (λ (n : ℕ). take n l) m
            | no k ↦ take_all c l (omega (arith, k)) ∙ sym (take_all (min (length l) c) l (omega (arith, k)))
          ]
