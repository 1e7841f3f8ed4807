-- The samples ahead, from run to run.
use mathlib.Core.Path.{◌≡◌, refl, ap, sym, ◌∙◌}
use Prim.Native.Nat.{ℕ, ◌+◌, ◌-◌, ◌≤◌}
use native.Mathlib.Nat.{sub-zero, sub-eq-zero_of_le}
use native.Mathlib.Omega.{arith}
use mathlib.Core.List.{List, [], ◌∷◌, ◌++◌, append_assoc}
use lib.ListN.{length, replicate, length-append, length-replicate}
use Rattle.table_rows.specs.Pattern.{Pattern, samples_from, samples_of}
use Rattle.table_rows.proofs.Samples.{samples_from-add}
use Rattle.table_patterns.specs.Place.{pattern_in}
use Rattle.table_patterns.specs.Run.{GivesRun}
use Rattle.table_patterns.specs.declared.PatternAt.{PatternAt}
use Rattle.table_patterns.specs.declared.run.Run.{Run}
use Rattle.table_csgp_head.specs.declared.PatternsAt.{PatternsAt}
use Rattle.table_runs.specs.Ahead.{all_in, ahead_in, WholeIn, Step}
use Rattle.table_runs.specs.Runs.{samples_behind, samples_ahead, first_run, Runs}
use Rattle.table_runs.specs.declared.SampleTable.{SampleTable}
use Rattle.table_runs.specs.declared.RunCursor.{RunCursor}

samples-all : (ps : List Pattern) → samples_behind ps 0 ≡ samples_of ps
unfolding samples_of
samples-all [] = refl
samples-all (p ∷ ps) = rw sub-zero

-- at the start all samples of the table are ahead
pub ahead-all : (s : List ℕ) (t : SampleTable) → samples_ahead s t (first_run t) ≡ samples_of (ahead_in s t (all_in t))
ahead-all s t = samples-all (ahead_in s t (all_in t))

-- the next n samples of the first pattern, and those behind them
samples-on : (p : Pattern) (ps : List Pattern) (k n : ℕ) → k + n ≤ p.count → samples_behind (p ∷ ps) k ≡ samples_from p k n ++ samples_behind (p ∷ ps) (k + n)
samples-on p ps k n b =
    let m = p.count - (k + n) in
    let e : p.count - k ≡ n + m = omega arith in
    rw (e, samples_from-add p k n m) (append_assoc (samples_from p k n) (samples_from p (k + n) m) (samples_of ps))

module _ (s : List ℕ) (t : SampleTable) (here behind : PatternsAt) (p : PatternAt) (step : Step s t here p behind) (k : ℕ) where
  -- no sample of the first pattern is left
  pub passed_over : p.count ≤ k → samples_ahead s t (record { here = here; sample = k }) ≡ samples_ahead s t (record { here = behind; sample = 0 })
  unfolding samples_from
  passed_over b =
      let z : p.count - k ≡ 0 = sub-eq-zero_of_le b in
      rw (step.first, z) (sym (samples-all (ahead_in s t behind)))

  pub run_on : WholeIn s t here → (r : Run) → GivesRun (pattern_in s p) k r → Runs s t (record { here = here; sample = k }) r.count r.index (record { here = here; sample = k + r.count })
  run_on w r g =
      let parts : samples_ahead s t (record { here = here; sample = k }) ≡ replicate r.count r.index ++ samples_ahead s t (record { here = here; sample = k + r.count }) =
      rw step.first (samples-on (pattern_in s p) (ahead_in s t behind) k r.count g.within ∙ rw g.samples refl) in
      record {
        some = g.some;
        samples = parts;
        whole = w;
        fewer = omega (arith, g.some, simp (length-append, length-replicate) at (ap length parts));
      }

-- what a step promises from a cursor, it promises from another that has the same samples ahead
pub runs-from : (s : List ℕ) (t : SampleTable) (c d : RunCursor) {n i : ℕ} {e : RunCursor} → samples_ahead s t c ≡ samples_ahead s t d → Runs s t d n i e → Runs s t c n i e
runs-from s t c d g r = record { some = r.some; samples = g ∙ r.samples; whole = r.whole; fewer = rw g r.fewer }
