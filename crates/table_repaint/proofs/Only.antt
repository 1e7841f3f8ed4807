-- The new rows are the only ones that the papers allow, and they are given whenever they have room.
use mathlib.Core.Path.{◌≡◌, sym, ◌∙◌}
use Prim.Native.Nat.{ℕ, ◌≤◌, ◌<◌}
use native.Mathlib.Omega.{arith}
use mathlib.Core.List.{List, [], reverse, reverse-reverse}
use lib.ListN.{length}
use Rattle.base_fields.specs.Answer.{given}
use Rattle.base_ids.specs.Limits.{record_limit}
use Rattle.table_rows.specs.Row.{Row, covered, expand, records_in}
use Rattle.table_rows.specs.Joined.{LongestRows}
use Rattle.table_rows.proofs.Only.{longest-only}
use Rattle.table_replay.proofs.Longest.{SmallCounts, follows-none, replay-rows}
use Rattle.table_repaint.specs.Repaint.{changed, stated_rows, repainted}
use Rattle.table_repaint.proofs.Counts.{replay-counts, reverse-counts}
use Rattle.table_repaint.proofs.Told.{repaint_told, told_repaint}
use Rattle.table_repaint.proofs.Laws.{new_expand, new_longest}

module _ (l : List ℕ) (stated a b i : ℕ) {rs : List Row} (e : repainted l stated a b i ≡ given rs) where
  pub new_counts : SmallCounts rs
  new_counts =
      let told = repaint_told l stated a b i e in
      let samples = changed a b i (expand (stated_rows l stated)) in
      rw (← told.rows) (reverse-counts told.out (replay-counts (records_in l) [] samples told.replayed tt))

  -- no other rows of the changed map are joined and have none of count 0
  pub new_only : (ts : List Row) → LongestRows ts → expand ts ≡ changed a b i (expand (stated_rows l stated)) → ts ≡ rs
  new_only ts joined samples = longest-only ts rs joined (new_longest l stated a b i e) (samples ∙ sym (new_expand l stated a b i e))

-- such rows of the changed map, if there is room for them, are the answer
module _ (l : List ℕ) (stated a b i : ℕ) (ts : List Row) where
  pub accepted : records_in l ≤ record_limit → stated ≤ records_in l → a < b → b ≤ covered (stated_rows l stated)
      → LongestRows ts → SmallCounts ts → expand ts ≡ changed a b i (expand (stated_rows l stated)) → length ts ≤ records_in l
      → repainted l stated a b i ≡ given ts
  accepted few within stretch reach joined counts samples room =
      told_repaint l stated a b i
      (record {
        few = few;
        within = within;
        stretch = stretch;
        reach = reach;
        out = reverse ts;
        replayed = rw (← samples) (replay-rows (records_in l) [] ts joined counts (follows-none ts) (omega arith));
        rows = reverse-reverse ts;
      })
