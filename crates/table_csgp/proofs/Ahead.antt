-- The samples of the patterns ahead of a place, and of the first of them as it is read.
use mathlib.Core.Path.{◌≡◌, refl}
use Prim.Native.Nat.{ℕ, ◌≤◌, ◌<◌}
use native.Mathlib.Omega.{arith}
use mathlib.Core.List.{List, [], ◌++◌}
use Rattle.table_rows.specs.Pattern.{samples_from, samples_of}
use Rattle.table_patterns.specs.Place.{pattern_in, Stands}
use Rattle.table_patterns.specs.declared.PatternAt.{PatternAt}
use Rattle.table_replay.specs.Replay.{replay}
use Rattle.table_csgp_head.specs.Head.{Fixed, place_at, ahead, Whole, all_patterns, patterns_behind, Near, CsgpLaid}
use Rattle.table_csgp_head.specs.declared.CsgpHead.{CsgpHead}
use Rattle.table_csgp_head.specs.declared.PatternsAt.{PatternsAt}
use Rattle.table_csgp_head.proofs.Ahead.{ahead-end, ahead_step}
use Rattle.table_csgp.specs.Rows.{rows_for}

abbrev pub coming : List ℕ → PatternsAt → List ℕ
coming s here = samples_of (ahead s here)

-- the samples behind a pattern
abbrev pub behind : List ℕ → CsgpHead → PatternsAt → PatternAt → List ℕ
behind s head here pattern = coming s (patterns_behind head here pattern.length)

pub record Reached (s : List ℕ) (head : CsgpHead) (here : PatternsAt) (pattern : PatternAt) : Type 0 where
  pub stands : Stands s pattern
  pub samples : coming s here ≡ samples_from (pattern_in s pattern) 0 pattern.count ++ behind s head here pattern
  pub whole : Whole s (patterns_behind head here pattern.length)
  pub near : Near (patterns_behind head here pattern.length)

pub none-coming : (s : List ℕ) (here : PatternsAt) → here.left ≤ 0 → coming s here ≡ []
unfolding samples_of
none-coming s here h = let z : here.left ≡ 0 = omega arith in rw (ahead-end s here z) refl

module _ (s : List ℕ) (head : CsgpHead) where
  pub rows-first : (room : ℕ) → CsgpLaid s head → rows_for s room ≡ replay room [] (coming s (all_patterns head))
  rows-first room l = rw l.patterns refl

  pub reached : (here : PatternsAt) (pattern : PatternAt) → Fixed s head → 0 < here.left → Whole s here → pattern ≡ place_at s here.pair here.indices →
      Reached s head here pattern
  unfolding samples_of
  reached here pattern f h w e =
      let t = ahead_step s here head f h w in
      rw e (record { stands = t.stands; samples = rw t.first refl; whole = t.whole; near = t.near })
