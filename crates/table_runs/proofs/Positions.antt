-- The patterns ahead have an index each, as the laws of the crate table_views on used positions ask; and which positions a sample uses.
use mathlib.Core.Path.{◌≡◌}
use mathlib.Core.Logic.{◌↔◌}
use Prim.Native.Nat.{ℕ, zero, suc, ◌%◌, ◌<◌, min}
use native.Mathlib.Nat.{mod-lt, mod-le, mod-eq_of_lt}
use native.Mathlib.Omega.{arith}
use mathlib.Core.List.{List}
use Rattle.table_front.specs.declared.TableKind.{TableKind}
use Rattle.table_patterns.specs.declared.PatternAt.{PatternAt}
use Rattle.table_patterns.proofs.Indices.{indices-length}
use Rattle.table_sbgp.specs.Sbgp.{read_rows}
use Rattle.table_csgp_head.specs.Head.{place_at, pair_behind, indices_behind, patterns_from, WholeFrom}
use Rattle.table_csgp_head.specs.declared.PatternsAt.{PatternsAt}
use Rattle.table_views.specs.Used.{Filled}
use Rattle.table_views.proofs.Steps.{filled-single}
use Rattle.table_runs.specs.Ahead.{all_in, ahead_in, WholeIn, Held}
use Rattle.table_runs.specs.declared.SampleTable.{SampleTable}
use Rattle.table_runs.specs.declared.SampleTable.TheVariants as table

filled-patterns : (n : ℕ) (s : List ℕ) (p q : ℕ) → WholeFrom n s p q → Filled (patterns_from n s p q)
unfolding WholeFrom patterns_from
filled-patterns zero s p q w = tt
filled-patterns (suc n) s p q w =
    let at = place_at s p q in
    (rw (indices-length at.marks at.width s at.length q) w.1.some, filled-patterns n s (pair_behind s p) (indices_behind s p q) w.2)

pub filled-ahead : (s : List ℕ) (t : SampleTable) (here : PatternsAt) → WholeIn s t here → Filled (ahead_in s t here)
filled-ahead s (table.Rows h) here w = filled-single (read_rows here.left s here.pair)
filled-ahead s (table.Patterns h) here w = filled-patterns here.left s here.pair here.indices w.1

-- a table that was read
pub filled-held : (kind : TableKind) (s : List ℕ) (t : SampleTable) → Held kind s t → Filled (ahead_in s t (all_in t))
filled-held kind s t h = filled-ahead s t (all_in t) h.whole

-- sample k of a pattern uses position i
pub record Uses (p : PatternAt) (i : ℕ) : Type 0 where
  pub sample : ℕ
  pub covered : sample < p.count
  pub position : sample % p.length ≡ i

-- the positions below what used_positions answers, and no others
pub used-below : (p : PatternAt) (used : ℕ) → 0 < p.length → used ≡ min p.length p.count → (i : ℕ) → (i < used) ↔ Uses p i
used-below p used some e i = (
  λ h. record { sample = i; covered = omega arith; position = mod-eq_of_lt (omega arith) },
  λ u. omega (arith, u.covered, u.position, mod-lt u.sample some, mod-le u.sample p.length),
)
