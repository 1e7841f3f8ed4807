-- What each way out of the preview and of the edit answers.
use Rattle.std.specs.Prelude.{Err}
use mathlib.Core.Path.{◌≡◌, refl, sym, ◌∙◌}
use mathlib.Core.Bool.{Bool, true, false}
use Prim.Native.Nat.{ℕ, ◌*◌, ◌<◌, ◌≤◌}
use native.Mathlib.Omega.{arith}
use borrow.Author.Tests.{lt-ltb, le-ltb, lt-leb, le-leb}
use mathlib.Core.List.{List, []}
use lib.Dec.{leb}
use lib.ListN.{length, get_or, take, length-take}
use Rattle.base_fields.specs.Answer.{given, refused, refuse_if}
use Rattle.base_fields.specs.Refusal.{number}
use Rattle.base_fields.specs.declared.refusal.Refusal.{Refusal}
use Rattle.base_fields.specs.Number.{field_bound}
use Rattle.base_fields.proofs.Answers.{given-first, refused-first}
use Rattle.base_ids.specs.Limits.{record_limit}
use Rattle.table_rows.specs.Row.{record_numbers, covered, records_in, total}
use Rattle.table_rows.proofs.Rows.{rows_take}
use Rattle.table_replay.specs.Enter.{tail_of}
use Rattle.table_replay.proofs.Longest.{SmallCounts}
use Rattle.table_repaint.specs.Repaint.{stated_rows, repainted, rows_counted}
use Rattle.table_repaint.specs.Repainted.{GivesRepaint}
use Rattle.table_repaint.specs.Cut.{tail_count}
use Rattle.table_repaint.specs.Ready.{AcceptedRepaint}
use Rattle.table_repaint.proofs.ByRuns.{answer-by-rows}
use Rattle.table_repaint.proofs.Counts.{stated_counts}

-- the total of the stated rows, by the numbers of their records
pub stated_total : (l : List ℕ) (stated : ℕ) → records_in l ≤ record_limit → stated ≤ records_in l
    → total (take (record_numbers * stated) l) ≡ given (covered (stated_rows l stated))
stated_total l stated few fit =
    let n : records_in (take (record_numbers * stated) l) ≤ record_limit = rw (length-take (record_numbers * stated) l) (omega arith) in
    simp (le-ltb record_limit (records_in (take (record_numbers * stated) l)) n, rows_take stated l)

module _ (l : List ℕ) (stated a b i : ℕ) where
  pub too_many : record_limit < records_in l → refused 55 ≡ rows_counted (repainted l stated a b i)
  unfolding repainted
  too_many h = rw (lt-ltb record_limit (records_in l) h)

  module _ (few : records_in l ≤ record_limit) where
    pub past-run : records_in l < stated → refused 70 ≡ rows_counted (repainted l stated a b i)
    unfolding repainted
    past-run h = rw (le-ltb record_limit (records_in l) few, lt-ltb (records_in l) stated h)

    module _ (fit : stated ≤ records_in l) where
      pub no_stretch : b ≤ a → refused 70 ≡ rows_counted (repainted l stated a b i)
      unfolding repainted
      no_stretch h = rw (le-ltb record_limit (records_in l) few, le-ltb (records_in l) stated fit, le-leb b a h)

      pub past-total : covered (stated_rows l stated) < b → refused 70 ≡ rows_counted (repainted l stated a b i)
      unfolding repainted
      past-total h =
          rw (le-ltb record_limit (records_in l) few, le-ltb (records_in l) stated fit, lt-ltb (covered (stated_rows l stated)) b h) (by (leb b a))
        where
          by : (p : Bool) → refused 70 ≡ rows_counted (refuse_if p 70 (refused 70))
          by true = refl
          by false = refl

      pub by_rows : a < b → b ≤ covered (stated_rows l stated) → SmallCounts (stated_rows l stated)
          → tail_count (records_in l) a b i (tail_of []) (stated_rows l stated) ≡ rows_counted (repainted l stated a b i)
      by_rows some h c =
          sym (answer-by-rows l stated a b i c
          ∙ rw (le-ltb record_limit (records_in l) few, le-ltb (records_in l) stated fit, lt-leb b a some, le-ltb (covered (stated_rows l stated)) b h) refl)

  -- a preview that gave a row count
  pub preview_accepted : {n : ℕ} → given n ≡ rows_counted (repainted l stated a b i) → ((k : ℕ) → get_or l k 0 < field_bound) → AcceptedRepaint l stated a b i
  preview_accepted e h =
      let first = given-first (repainted l stated a b i) (λ rs. given (length rs)) (sym e) in
      record { rows = first.0; gives = first.1; counts = stated_counts l stated h }

  pub gives-refused : {e : Refusal} → refused (number e) ≡ rows_counted (repainted l stated a b i) → GivesRepaint (repainted l stated a b i) l l (Err e)
  gives-refused {e} h =
      let told : repainted l stated a b i ≡ refused (number e) = refused-first (repainted l stated a b i) (λ rs. length rs) (sym h) in
      record { answer = h; run = rw told refl }
