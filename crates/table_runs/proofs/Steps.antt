-- One step along the patterns of either table.
use mathlib.Core.Path.{◌≡◌, refl}
use Prim.Native.Nat.{ℕ, zero, suc, ◌+◌, ◌-◌, ◌<◌}
use native.Mathlib.Omega.{arith}
use mathlib.Core.List.{List, [], ◌∷◌}
use Rattle.base_fields.specs.Number.{be_at}
use Rattle.base_fields.proofs.Bits.{Bytes, bytes_as_bits}
use Rattle.table_rows.specs.Pattern.{single}
use Rattle.table_patterns.specs.Place.{indices_at, pattern_in}
use Rattle.table_sbgp.specs.Sbgp.{read_rows}
use Rattle.table_sbgp.specs.declared.SbgpHead.{SbgpHead}
use Rattle.table_sbgp.specs.Head as rows
use Rattle.table_csgp_head.specs.Head as patterns
use Rattle.table_csgp_head.specs.declared.CsgpHead.{CsgpHead}
use Rattle.table_csgp_head.specs.declared.PatternsAt.{PatternsAt}
use Rattle.table_csgp_head.proofs.Ahead.{ahead-end, ahead_step}
use Rattle.table_front.specs.declared.TableKind.TheVariants.{Sbgp, Csgp}
use Rattle.table_runs.specs.Ahead.{row_place, ahead_in, WholeIn, Held, Step}
use Rattle.table_runs.specs.declared.SampleTable.{SampleTable}
use Rattle.table_runs.specs.declared.SampleTable.TheVariants as table

-- the bits of a row's index are its bytes
row-pattern : (s : List ℕ) (p : ℕ) → Bytes s → pattern_in s (row_place s p) ≡ single (record { count = be_at 4 s p; index = be_at 4 s (p + 4) })
unfolding indices_at
row-pattern s p b = rw (bytes_as_bits 4 s (p + 4) b) refl

pub rows-first : (n : ℕ) (s : List ℕ) (p : ℕ) → 0 < n → read_rows n s p ≡ record { count = be_at 4 s p; index = be_at 4 s (p + 4) } ∷ read_rows (n - 1) s (p + 8)
unfolding read_rows
rows-first zero s p h = absurd (omega arith)
rows-first (suc n) s p h = let e : suc n - 1 ≡ n = omega arith in rw e refl

pub end-in : (s : List ℕ) (t : SampleTable) (here : PatternsAt) → here.left ≡ 0 → ahead_in s t here ≡ []
unfolding read_rows
end-in s (table.Rows h) here e = rw e refl
end-in s (table.Patterns h) here e = ahead-end s here e

module _ (s : List ℕ) (here : PatternsAt) (some : here.left ≡ 0 → ⊥) where
  pub row_step : (h : SbgpHead) → Bytes s → WholeIn s (table.Rows h) here →
      Step s (table.Rows h) here (row_place s here.pair) (record { left = here.left - 1; pair = here.pair + 8; indices = here.indices })
  row_step h b w =
      let positive : 0 < here.left = omega arith in
      record {
        stands = record { wide = omega arith; narrow = omega arith; some = omega arith; late = omega arith; inside = omega (arith, w.0); short = w.1 };
        first = rw (rows-first here.left s here.pair positive, row-pattern s here.pair b) refl;
        whole = (omega (arith, w.0), w.1);
        fewer = omega arith;
      }

  pub pattern-step : (h : CsgpHead) → WholeIn s (table.Patterns h) here →
      Step s (table.Patterns h) here (patterns.place_at s here.pair here.indices) (patterns.patterns_behind h here (patterns.pair_read s here.pair).pattern_length)
  pattern-step h w =
      let p = ahead_step s here h w.0 (omega arith) w.1 in
      record { stands = p.stands; first = p.first; whole = (w.0, p.whole); fewer = omega arith }

module _ (s : List ℕ) where
  pub held_rows : (h : SbgpHead) → rows.SbgpLaid s h → Held Sbgp s (table.Rows h)
  held_rows h l = record { kind = tt; patterns = rw l.table refl; whole = (l.inside, l.short); laid = l }

  pub held-patterns : (h : CsgpHead) → patterns.CsgpLaid s h → Held Csgp s (table.Patterns h)
  held-patterns h l = record { kind = tt; patterns = l.patterns; whole = (l.fixed, l.whole); laid = l }
