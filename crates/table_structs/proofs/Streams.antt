-- The rows ahead of a cursor, from row to row.
use mathlib.Core.Path.{◌≡◌, refl, ap, ◌∙◌}
use Prim.Native.Nat.{ℕ, zero, suc, ◌+◌, ◌≤◌, ◌<◌}
use native.Mathlib.Omega.{arith}
use mathlib.Core.List.{List, [], ◌∷◌, ◌++◌, append_assoc}
use lib.ListN.{length, replicate, replicate-append-replicate, length-append, length-replicate}
use Rattle.base_fields.specs.Answer.{input_limit}
use Rattle.base_ids.specs.Limits.{count_limit}
use Rattle.table_rows.specs.Row.{Row}
use Rattle.table_sbgp.specs.declared.SbgpHead.{SbgpHead}
use Rattle.table_sbgp.proofs.Table.{read_rows-length}
use Rattle.table_csgp_head.specs.declared.CsgpHead.{CsgpHead}
use Rattle.table_csgp_head.specs.declared.PatternsAt.{PatternsAt}
use Rattle.table_runs.specs.Ahead.{WholeIn}
use Rattle.table_runs.specs.Runs.{samples_ahead, Runs}
use Rattle.table_runs.specs.declared.SampleTable.{SampleTable}
use Rattle.table_runs.specs.declared.SampleTable.TheVariants as table
use Rattle.table_runs.specs.declared.RunCursor.{RunCursor}
use Rattle.table_structs.specs.Stream.{samples_joined, CountsFit, samples_held, rows_from, rows_ahead, Ready, HoldsRun, GivesPlain, GivesJoined, GivesRow}
use Rattle.table_structs.specs.declared.stream.RowCursor.{RowCursor}
use Rattle.table_structs.specs.declared.stream.NextRow.{NextRow}
use Rattle.table_structs.proofs.Joined.{Apart, joined-begins, joined-row}

-- some samples of an index
apart-run : (m j i : ℕ) (l : List ℕ) → 0 < m → (j ≡ i → ⊥) → Apart i (replicate m j ++ l)
apart-run zero j i l h n = absurd (omega arith)
apart-run (suc m) j i l h n = n

first_small : (m i : ℕ) (l : List ℕ) → 0 < m → CountsFit (samples_joined (replicate m i ++ l)) → m ≤ count_limit
unfolding CountsFit
first_small m i l h small = let b = joined-begins m i l h in let f = rw b.is at small in omega (arith, b.least, f.0)

small-behind : (r : Row) (rs rows : List Row) → rows ≡ r ∷ rs → CountsFit rows → CountsFit rs
unfolding CountsFit
small-behind r rs rows e small = (rw e at small).1

module _ (s : List ℕ) (t : SampleTable) where
  -- the run in hand is the next one
  pub held-run : (at : RunCursor) (n i : ℕ) (d : RunCursor) → Runs s t at n i d → HoldsRun s t at (record { run = d; count = n; index = i })
  held-run at n i d r =
      record {
        ready = record { whole = r.whole; held = λ z. absurd (omega (arith, r.some)) };
        samples = r.samples;
      }

  pub held_none : (at : RunCursor) → WholeIn s t at.here → samples_ahead s t at ≡ [] → HoldsRun s t at (record { run = at; count = 0; index = 0 })
  held_none at w e = record { ready = record { whole = w; held = λ z. e }; samples = refl }

  -- `count` samples of the index are joined, of a row that began with fewer
  pub record Joining (index count₀ : ℕ) (next₀ : RowCursor) (count : ℕ) (next : RowCursor) : Type 0 where
    pub samples : replicate count₀ index ++ samples_held s t next₀ ≡ replicate count index ++ samples_held s t next
    pub small : CountsFit (samples_joined (replicate count₀ index ++ samples_held s t next₀))
    pub some : 0 < count
    pub ready : Ready s t next

  pub joining-first : (c next : RowCursor) → CountsFit (samples_joined (samples_held s t c)) → 0 < c.count → HoldsRun s t c.run next → Joining c.index c.count next c.count next
  joining-first c next small some h = record { samples = refl; small = rw (← h.samples) small; some = some; ready = h.ready }

  module _ {index count₀ count : ℕ} {next₀ next : RowCursor} (j : Joining index count₀ next₀ count next) where
    -- the run in hand joins
    grown : next.index ≡ index → replicate count₀ index ++ samples_held s t next₀ ≡ replicate (count + next.count) index ++ samples_ahead s t next.run
    grown e = j.samples ∙ rw (e, ← append_assoc, replicate-append-replicate (count) next.count index) refl

    pub joining-fits : next.index ≡ index → count + next.count ≤ count_limit
    joining-fits e = first_small (count + next.count) index (samples_ahead s t next.run) (omega (arith, j.some)) (rw (grown e) at j.small)

    module _ (after : RowCursor) (h : HoldsRun s t next.run after) where
      pub joining-less : 0 < next.count → length (samples_held s t after) < length (samples_held s t next)
      joining-less some =
          let e = ap length h.samples in
          let f : length (samples_held s t next) ≡ next.count + length (samples_ahead s t next.run) = simp (length-append, length-replicate) in
          omega (arith, e, f)

      pub joining-again : next.index ≡ index → Joining index count₀ next₀ (count + next.count) after
      joining-again e = record { samples = grown e ∙ rw h.samples refl; small = j.small; some = omega (arith, j.some); ready = h.ready }

    -- no run is left, or the run in hand has another index
    pub apart-last : next.count ≡ 0 → Apart index (samples_held s t next)
    apart-last z = let e : samples_held s t next ≡ [] = rw z (j.ready.held z) in rw e tt

    pub apart_other : 0 < next.count → (next.index ≡ index → ⊥) → Apart index (samples_held s t next)
    apart_other some n = apart-run next.count next.index index (samples_ahead s t next.run) some n

  -- then the row ends
  pub joining-ends : (c : RowCursor) {count : ℕ} {next₀ next : RowCursor} → HoldsRun s t c.run next₀ → Joining c.index c.count next₀ count next → Apart c.index (samples_held s t next)
      → GivesJoined s t c (record { row = record { sample_count = count; group_description_index = c.index }; rest = next })
  joining-ends c {count} {next₀} {next} h j a =
      record {
        first = rw h.samples (ap samples_joined j.samples ∙ joined-row count c.index (samples_held s t next) j.some a);
        ready = j.ready;
      }

-- from either kind's row to the table's
pub row_plain : (s : List ℕ) (h : SbgpHead) (c : RowCursor) (r : NextRow) → length s ≤ input_limit → GivesPlain s c.run.here r → GivesRow s (table.Rows h) c r
row_plain s h c r short g = record { first = g.first; joins = (g.inside, short) }

pub row-joined : (s : List ℕ) (h : CsgpHead) (c : RowCursor) (r : NextRow) → CountsFit (rows_ahead s (table.Patterns h) c) → GivesJoined s (table.Patterns h) c r → GivesRow s (table.Patterns h) c r
row-joined s h c r small g = record { first = g.first; joins = (g.ready, small-behind _ _ _ g.first small) }

-- a row is ahead: of an sbgp some are left, of a csgp a run is in hand
pub plain-left : (s : List ℕ) (here : PatternsAt) → 0 < length (rows_from s here) → 0 < here.left
plain-left s here h = rw (read_rows-length here.left s here.pair) at h

pub joined-left : (s : List ℕ) (t : SampleTable) (c : RowCursor) → Ready s t c → 0 < length (samples_joined (samples_held s t c)) → 0 < c.count
unfolding samples_joined
joined-left s t c r h = by c.count refl
  where
    by : (n : ℕ) → c.count ≡ n → 0 < n
    by zero e = let z : samples_held s t c ≡ [] = rw e (r.held e) in rw z at h
    by (suc n) e = omega arith
