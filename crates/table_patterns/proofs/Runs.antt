-- Runs: one index, one more of the same, and a run of a pattern's indices as one of its samples.
use mathlib.Core.Path.{◌≡◌, ap, sym, ◌∙◌}
use Prim.Native.Nat.{ℕ, ◌+◌, ◌-◌, ◌*◌, ◌%◌, ◌^◌, ◌≤◌, ◌<◌}
use native.Mathlib.Nat.{add-zero, mul-suc, mul-le-mul_left, mod-lt, mod-add-mod, mod-eq_of_lt}
use native.Mathlib.Omega.{arith}
use borrow.Author.Count.{below_more}
use mathlib.Core.Bool.{Bool}
use mathlib.Core.List.{List}
use Rattle.base_fields.proofs.Bits.{bits_below}
use Rattle.table_rows.proofs.Samples.{samples_from-run}
use Rattle.table_patterns.specs.Place.{index_value, field_number, index_number, pattern_in}
use Rattle.table_patterns.specs.Run.{GivesRun, AlikeIndices}
use Rattle.table_patterns.specs.declared.run.Run.{Run}
use Rattle.table_patterns.specs.declared.PatternAt.{PatternAt}
use Rattle.table_patterns.proofs.Indices.{index-at-turn}

-- a field before the end of its run ends within it
pub field_end : (width place i end : ℕ) → i < end → place + width * i + width ≤ place + width * end
field_end width place i end h = omega (arith, mul-suc width i, mul-le-mul_left width h)

module _ (index : ℕ → ℕ) (k end : ℕ) where
  pub run-one : {v : ℕ} → k < end → index k ≡ v → AlikeIndices index k end (record { count = 1; index = v })
  run-one {v} h e =
      record {
        some = omega arith;
        within = omega arith;
        same = λ j l. let z : j ≡ 0 = omega arith in rw (z, add-zero) e;
      }

  pub run_more : {n v : ℕ} → AlikeIndices index k end (record { count = n; index = v }) → k + n < end → index (k + n) ≡ v →
      AlikeIndices index k end (record { count = n + 1; index = v })
  run_more {n} {v} r h e =
      record {
        some = omega arith;
        within = omega arith;
        same = below_more (λ (j : ℕ). index (k + j) ≡ v) n r.same e;
      }

-- alike fields hold alike indices
pub run-valued : (marks : Bool) (width place k end : ℕ) (s : List ℕ) (r : Run) {v : ℕ} → AlikeIndices (field_number width s place) k end r →
    v ≡ index_value marks width r.index → AlikeIndices (index_number marks width s place) k end (record { count = r.count; index = v })
run-valued marks width place k end s r t e =
    record { some = t.some; within = t.within; same = λ j l. ap (index_value marks width) (t.same j l) ∙ sym e }

-- and fit their width
pub run_fits : (width place k end : ℕ) (s : List ℕ) (r : Run) → AlikeIndices (field_number width s place) k end r → r.index < 2 ^ width
run_fits width place k end s r t = rw (← (t.same 0 t.some)) (bits_below width s _)

-- a sample's place in a pattern of n indices, where the pattern does not end before it
pub mod_step : (k j n : ℕ) → k % n + j < n → (k + j) % n ≡ k % n + j
mod_step k j n h = sym (mod-add-mod k n j) ∙ mod-eq_of_lt h

module _ (index : ℕ → ℕ) (n k count : ℕ) (pos : 0 < n) where
  -- the stretch ends with the pattern
  pub run-part : (end : ℕ) (r : Run) → AlikeIndices index (k % n) end r → end ≤ n → end ≤ k % n + (count - k) → k < count →
      AlikeIndices (λ i. index (i % n)) k count r
  run-part end r t h l b =
      record {
        some = t.some;
        within = omega (arith, t.within);
        same = λ j g. let m : k % n + j < n = omega (arith, t.within) in rw (mod_step k j n m) (t.same j g);
      }

  -- all indices are equal
  pub run-all : (end v : ℕ) → AlikeIndices index (k % n) end (record { count = n; index = v }) → end ≤ n → k < count →
      AlikeIndices (λ i. index (i % n)) k count (record { count = count - k; index = v })
  run-all end v t h b =
      let z : k % n ≡ 0 = omega (arith, t.within) in
      record {
        some = omega arith;
        within = omega arith;
        same = λ j g.
            let m = t.same ((k + j) % n) (mod-lt (k + j) pos) in
            let e : k % n + (k + j) % n ≡ (k + j) % n = omega arith in
            rw e at m;
      }

-- alike indices are a run of the pattern's samples
pub gives-run : (s : List ℕ) (p : PatternAt) (k : ℕ) (r : Run) → 0 < p.length →
    AlikeIndices (λ i. index_number p.marks p.width s p.indices (i % p.length)) k p.count r → GivesRun (pattern_in s p) k r
gives-run s p k r h t =
    record {
      some = t.some;
      within = t.within;
      samples = samples_from-run (pattern_in s p) k r.count (λ j l. index-at-turn s p (k + j) h ∙ t.same j l);
    }
