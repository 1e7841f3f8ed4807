-- No number of the stretches of some samples is over the number of samples.
use mathlib.Core.Path.{◌≡◌, ap}
use mathlib.Core.Bool.{Bool}
use Prim.Native.Nat.{ℕ, ◌+◌, ◌≤◌}
use native.Mathlib.Omega.{arith}
use mathlib.Core.List.{List}
use lib.ListN.{length}
use Rattle.table_views.specs.Stretches.{Summary, front, back, longest, summary}
use Rattle.table_views.proofs.Stretches.{front-longest, back-longest}
use Rattle.table_views.proofs.Longest.{longest-covered}
use Rattle.use_profile.specs.Survey.{told_gaps, AtMost, Fit, largest}
use Rattle.use_profile.specs.declared.Gaps.{Gaps}

pub at_most : (gap : ℕ → Bool) (l : List ℕ) (n : ℕ) (g : Gaps) → told_gaps g ≡ summary gap l → length l ≤ n → AtMost n g
unfolding summary
at_most gap l n g e h =
    let f : g.front ≡ front gap l = ap (λ (x : Summary). x.front) e in
    let b : g.back ≡ back gap l = ap (λ (x : Summary). x.back) e in
    let m : g.longest ≡ longest gap l = ap (λ (x : Summary). x.longest) e in
    record {
      front = omega (arith, f, front-longest gap l, longest-covered gap l, h);
      back = omega (arith, b, back-longest gap l, longest-covered gap l, h);
      longest = omega (arith, m, longest-covered gap l, h);
    }

-- of some samples behind others, where a number of 64 bits counts them all
pub both-fit : (n m : ℕ) (a b : Gaps) → AtMost n a → AtMost m b → n + m ≤ largest → Fit a b
both-fit n m a b f g h =
    record {
      front = omega (arith, f.front, g.front, h);
      back = omega (arith, f.back, g.back, h);
      across = omega (arith, f.back, g.front, h);
    }
