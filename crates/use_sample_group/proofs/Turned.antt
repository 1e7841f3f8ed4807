-- The index of a sample, pattern by pattern.
use mathlib.Core.Path.{◌≡◌, refl}
use mathlib.Core.List.{List, []}
use Prim.Native.Nat.{ℕ, ◌-◌, ◌%◌, ◌≤◌, ◌<◌}
use borrow.Author.Tests.{lt-ltb, le-ltb}
use lib.ListN.{get_or}
use Rattle.table_rows.specs.Pattern.{Pattern, index_in, index_of}
use Rattle.table_patterns.specs.Place.{pattern_in}
use Rattle.table_patterns.specs.declared.PatternAt.{PatternAt}
use Rattle.table_patterns.proofs.Indices.{indices-length}
use Rattle.table_csgp_head.specs.declared.PatternsAt.{PatternsAt}
use Rattle.table_runs.specs.Ahead.{ahead_in, Step}
use Rattle.table_runs.specs.declared.SampleTable.{SampleTable}

-- sample k of a pattern has the index at its position in the turn
pub turn-index : (s : List ℕ) (p : PatternAt) (k : ℕ) → get_or (pattern_in s p).indices (k % p.length) 0 ≡ index_in (pattern_in s p) k
unfolding index_in
turn-index s p k = rw (indices-length p.marks p.width s p.length p.indices) refl

-- the first pattern ahead
module _ (s : List ℕ) (t : SampleTable) (here behind : PatternsAt) (p : PatternAt) (step : Step s t here p behind) (k : ℕ) where
  -- covers sample k
  pub index-here : k < p.count → index_in (pattern_in s p) k ≡ index_of (ahead_in s t here) k
  unfolding index_of
  index-here h = rw (step.first, lt-ltb k p.count h) refl

  -- or not
  pub index-behind : p.count ≤ k → index_of (ahead_in s t here) k ≡ index_of (ahead_in s t behind) (k - p.count)
  unfolding index_of
  index-behind h = rw (step.first, le-ltb k p.count h) refl

pub index-none : {ps : List Pattern} → ps ≡ [] → (k : ℕ) → 0 ≡ index_of ps k
unfolding index_of
index-none e k = rw e refl
