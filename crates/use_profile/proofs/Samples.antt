-- Rules 2 to 5 by what is seen of the samples, where the listing's stages give something.
use mathlib.Core.Path.{◌≡◌, refl, ap, sym, ◌∙◌}
use mathlib.Core.Bool.{Bool, true, false, true≢false}
use mathlib.Core.Logic.{◌⊎◌, inl, inr, ⊎_elim}
use Prim.Native.Nat.{ℕ, zero, suc, ◌≤◌, ◌<◌}
use native.Mathlib.Omega.{arith}
use mathlib.Core.List.{List, [], ◌∷◌}
use lib.ListN.{length, get_or}
use Rattle.base_fields.specs.Answer.{Answer, given, choose}
use Rattle.table_rows.specs.Pattern.{samples_of}
use Rattle.table_rows.proofs.Samples.{covered_by-samples, index_of-samples}
use Rattle.table_views.specs.Stretches.{whole, front, longest, Consecutive}
use Rattle.table_views.proofs.Longest.{longest-is}
use Rattle.table_views.proofs.Used.{get_d_member}
use Rattle.table_views.proofs.Whole.{whole_each, at-whole}
use Rattle.group_entries.specs.Decoded.{Decoded, Rap, rap_of}
use Rattle.listing_theorem.specs.Meaning.{Meaning, outside, missing, value}
use Rattle.listing_theorem.specs.Listing.{kind}
use Rattle.listing_theorem.specs.Samples.{meaning_of}
use Rattle.listing_theorem.proofs.Samples.{meanings-told}
use Rattle.listing_spec.specs.Meanings.{covered_in, meaning_in}
use Rattle.listing_spec.proofs.Group.{patterns-in, entries-in}
use Rattle.listing_spec.proofs.Stages.{Stages}
use Rattle.use_profile.specs.Profile.{t, Means, HasKind, StartsInside, ShortGaps, LeadingKnown, NoneMissing}
use Rattle.use_profile.specs.Survey.{kind_of_value, kind_told, kind_by, is_gap, is_known, is_found}
use Rattle.use_profile.specs.declared.SampleKind.{SampleKind}
use Rattle.use_profile.proofs.Meant.{rap-known, gap-kind, kind-gap, inside-kind, kind-inside, found-kind, kind-found, rap-value}

-- the first of some samples
front-some : (gap : ℕ → Bool) (l : List ℕ) → 0 < front gap l → gap (get_or l 0 0) ≡ true
unfolding front
front-some gap [] h = absurd (omega arith)
front-some gap (i ∷ l) h = by (gap i) refl h
  where
    by : (b : Bool) → gap i ≡ b → 0 < choose b (suc (front gap l)) 0 → gap i ≡ true
    by true e h = e
    by false e h = absurd (omega arith)

front-none : (gap : ℕ → Bool) (l : List ℕ) → 0 < length l → front gap l ≡ 0 → gap (get_or l 0 0) ≡ false
unfolding front
front-none gap [] h z = absurd (omega arith)
front-none gap (i ∷ l) h z = by (gap i) refl z
  where
    by : (b : Bool) → gap i ≡ b → choose b (suc (front gap l)) 0 ≡ 0 → gap i ≡ false
    by true e z = absurd (omega (arith, z))
    by false e z = e

module _ (s : List ℕ) {room : ℕ} (x : Stages s t room) where
  abbrev pub indices : List ℕ
  indices = samples_of x.group.patterns

  abbrev pub kind_at : ℕ → SampleKind
  kind_at = kind_by x.group.entries

  abbrev gap : ℕ → Bool
  gap i = is_gap (kind_at i)

  abbrev known : ℕ → Bool
  known i = is_known (kind_at i)

  abbrev found : ℕ → Bool
  found i = is_found (kind_at i)

  pub covers : covered_in s t ≡ length indices
  covers = rw (patterns-in s t room x.opens) (covered_by-samples x.group.patterns)

  meaning-at : (k : ℕ) → meaning_in s t k ≡ meaning_of t x.group.entries (get_or indices k 0)
  meaning-at k = rw (patterns-in s t room x.opens, entries-in s t room x.opens, index_of-samples x.group.patterns k) refl

  -- each covered sample has a meaning, and its kind is seen
  record At (k : ℕ) : Type 0 where
    pub meaning : Meaning
    pub means : Means s k meaning
    pub seen : kind_at (get_or indices k 0) ≡ kind_told (given meaning)

  at : (k : ℕ) → k < length indices → At k
  at k h =
      let told = (meanings-told t x.group.entries indices x.meant).at k h in
      record { meaning = get_or x.ms k outside; means = record { covered = omega (arith, covers, h); told = meaning-at k ∙ told }; seen = ap kind_told told }

  inside : {k n : ℕ} → HasKind s k n → k < length indices
  inside h = omega (arith, covers, h.means.covered)

  seen_at : {k n : ℕ} (h : HasKind s k n) → kind_at (get_or indices k 0) ≡ kind_told (given h.meaning)
  seen_at {k} h = ap kind_told (sym (meaning-at k) ∙ h.means.told)

  has : {k n : ℕ} (a : At k) → kind a.meaning ≡ n → HasKind s k n
  has a e = record { meaning = a.meaning; means = a.means; is = e }

  -- rule 2
  pub starts : 0 < length indices → front gap indices ≡ 0 → StartsInside s
  starts h z =
      let a = at 0 h in
      has a (inside-kind a.meaning (ap is_gap (sym a.seen) ∙ front-none gap indices h z))

  pub starts-not : 0 < front gap indices → StartsInside s → ⊥
  starts-not h k =
      true≢false (sym (front-some gap indices h) ∙ ap is_gap (seen_at k) ∙ kind-inside k.meaning k.is)

  pub starts_none : length indices ≡ 0 → StartsInside s → ⊥
  starts_none h k = omega (arith, h, inside k)

  -- rule 3
  of-gap : {k : ℕ} → HasKind s k 0 ⊎ HasKind s k 1 → (k < length indices) × (gap (get_or indices k 0) ≡ true)
  of-gap {k} h =
      ⊎_elim {C = (k < length indices) × (gap (get_or indices k 0) ≡ true)}
      (λ a. (inside a, ap is_gap (seen_at a) ∙ kind-gap a.meaning (inl a.is)))
      (λ a. (inside a, ap is_gap (seen_at a) ∙ kind-gap a.meaning (inr a.is))) h

  to-gap : {k : ℕ} → k < length indices → gap (get_or indices k 0) ≡ true → HasKind s k 0 ⊎ HasKind s k 1
  to-gap {k} h e =
      let a = at k h in
      ⊎_elim {C = HasKind s k 0 ⊎ HasKind s k 1} (λ z. inl (has a z)) (λ z. inr (has a z)) (gap-kind a.meaning (ap is_gap (sym a.seen) ∙ e))

  pub short : longest gap indices ≤ 600 → ShortGaps s
  short h zero r = omega arith
  short h (suc n) r =
      let last = of-gap (r.each n (omega arith)) in
      let c : Consecutive gap indices (suc n) = record { first = r.first; covered = omega (arith, last.0); passes = λ j b. (of-gap (r.each j b)).1 } in
      omega (arith, (longest-is gap indices).greatest (suc n) c, h)

  pub long : 600 < longest gap indices → ShortGaps s → ⊥
  long h r =
      let c = (longest-is gap indices).holds in
      let n = r (longest gap indices) (record { first = c.first; each = λ j b. to-gap (omega (arith, c.covered, b)) (c.passes j b) }) in
      omega (arith, n, h)

  -- rule 4
  pub all_known : whole known indices ≡ true → LeadingKnown s
  all_known e k h =
      let i = get_or indices k 0 in
      let passes : known i ≡ true = whole_each known indices e i (get_d_member indices k (inside h)) in
      by h.meaning h.means (sym (ap is_known (seen_at h)) ∙ passes) h.is
    where
      by : (m : Meaning) → Means s k m → is_known (kind_told (given m)) ≡ true → kind m ≡ 2 → (r : Rap) × Means s k (value (rap_of r)) × (r.known ≡ true)
      by outside w p z = absurd (omega (arith, z))
      by missing w p z = absurd (omega (arith, z))
      by (value v) w p z =
          let r = rap-value x.group.entries (get_or indices k 0) (sym (meaning-at k) ∙ w.told) in
          let same = ap (λ (d : Decoded). is_known (kind_of_value d)) r.1 in
          let told = w.told ∙ ap {B = Answer Meaning} (λ (d : Decoded). given (value d)) r.1 in
          let means : Means s k (value (rap_of r.0)) = record { covered = w.covered; told = told } in
          (r.0, means, sym (rap-known r.0) ∙ sym same ∙ p)

  pub known-all : LeadingKnown s → whole known indices ≡ true
  known-all rule = at-whole known indices (λ k h. let a = at k h in ap is_known a.seen ∙ by k a.meaning a refl)
    where
      by : (k : ℕ) (m : Meaning) (a : At k) → a.meaning ≡ m → is_known (kind_told (given m)) ≡ true
      by k outside a e = refl
      by k missing a e = refl
      by k (value v) a e =
          let r = rule k (has a (ap kind e)) in
          let same : value v ≡ value (rap_of r.0) = meaning-same (sym (a.means.told ∙ ap {B = Answer Meaning} given e) ∙ r.1.told) in
          ap (λ (m : Meaning). is_known (kind_told (given m))) same ∙ rap-known r.0 ∙ r.2
        where
          meaning-same : {a b : Meaning} → ◌≡◌ {A = Answer Meaning} (given a) (given b) → a ≡ b
          meaning-same e = cc

  -- rule 5
  pub all_found : whole found indices ≡ true → NoneMissing s
  all_found e k h =
      let i = get_or indices k 0 in
      found-kind h.meaning (sym (ap is_found (seen_at h)) ∙ whole_each found indices e i (get_d_member indices k (inside h))) h.is

  pub found_all : NoneMissing s → whole found indices ≡ true
  found_all rule = at-whole found indices (λ k h. let a = at k h in ap is_found a.seen ∙ kind-found a.meaning (λ z. rule k (has a z)))
