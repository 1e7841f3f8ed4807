-- Steps of the stretches, as the code takes them, and its tests.
use mathlib.Core.Path.{◌≡◌, refl, ap, ◌∙◌}
use mathlib.Core.Bool.{Bool, true, false, ◌&&◌, not, true≢false, false≢true}
use Prim.Native.Nat.{ℕ, zero, suc, ◌+◌, ◌*◌, max}
use native.Mathlib.Omega.{arith}
use Rattle.base_fields.specs.Answer.{choose}
use Rattle.table_views.specs.Stretches.{Summary, step, join, times, no_samples_of}
use Rattle.table_views.proofs.Summaries.{same}
use Rattle.use_profile.specs.Survey.{Survey}

pub step-more : (w : Bool) (f b l : ℕ)
    → record { whole = w; front = choose w (f + 1) f; back = b + 1; longest = max l (b + 1) } ≡ step true (record { whole = w; front = f; back = b; longest = l })
unfolding step
step-more w f b l = same refl (by w) (omega arith) (omega arith)
  where
    by : (v : Bool) → choose v (f + 1) f ≡ choose v (suc f) f
    by true = omega arith
    by false = refl

pub join_more : (a b : Summary)
    → ◌≡◌ {A = Summary} (record {
      whole = a.whole && b.whole;
      front = choose a.whole (a.front + b.front) a.front;
      back = choose b.whole (b.back + a.back) b.back;
      longest = max (max a.longest b.longest) (a.back + b.front);
    }) (join a b)
unfolding join
join_more a b = same refl refl (by b.whole) refl
  where
    by : (v : Bool) → choose v (b.back + a.back) b.back ≡ choose v (a.back + b.back) b.back
    by true = omega arith
    by false = refl

pub times_zero : {m : ℕ} (s : Summary) → m ≡ 0 → times m s ≡ no_samples_of
unfolding times
times_zero s e = rw e refl

pub times-one : {m : ℕ} (s : Summary) → m ≡ 1 → times m s ≡ s
unfolding times
times-one s e = rw e refl

-- of two and more, by whether all samples are of these kinds
abbrev times_by : Bool → ℕ → Summary → Summary
times_by w m s =
    record {
      whole = w;
      front = choose w (m * s.front) s.front;
      back = choose w (m * s.back) s.back;
      longest = choose w (m * s.longest) (max s.longest (s.back + s.front));
    }

times-by : (m : ℕ) (s : Summary) → (m ≡ 0 → ⊥) → (m ≡ 1 → ⊥) → times m s ≡ times_by s.whole m s
unfolding times
times-by zero s a b = absurd (a refl)
times-by (suc zero) s a b = absurd (b refl)
times-by (suc (suc m)) s a b = refl

pub times-whole : (m : ℕ) (s : Summary) → (m ≡ 0 → ⊥) → (m ≡ 1 → ⊥) → s.whole ≡ true
    → times m s ≡ record { whole = true; front = m * s.front; back = m * s.back; longest = m * s.longest }
times-whole m s a b e = times-by m s a b ∙ ap (λ (w : Bool). times_by w m s) e

pub times-parted : (m : ℕ) (s : Summary) → (m ≡ 0 → ⊥) → (m ≡ 1 → ⊥) → s.whole ≡ false
    → times m s ≡ record { whole = false; front = s.front; back = s.back; longest = max s.longest (s.back + s.front) }
times-parted m s a b e = times-by m s a b ∙ ap (λ (w : Bool). times_by w m s) e

pub seen_same : {a b : Summary} {k m o q : Bool} → a ≡ b → k ≡ m → o ≡ q
    → ◌≡◌ {A = Survey} (record { gaps = a; known = k; found = o }) (record { gaps = b; known = m; found = q })
seen_same r s t i = record { gaps = r i; known = s i; found = t i }

-- what a test of `!b` tells
pub was_false : (b : Bool) → not b ≡ true → b ≡ false
was_false true e = absurd (false≢true e)
was_false false e = refl

pub was_true : (b : Bool) → not b ≡ false → b ≡ true
was_true true e = refl
was_true false e = absurd (true≢false e)
