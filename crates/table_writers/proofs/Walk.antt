-- What the walk over the rows that remain does at each row.
use Rattle.std.specs.Prelude.{Result, Ok, Err, Option, Some, None}
use mathlib.Core.Path.{◌≡◌, refl, ◌∙◌}
use Prim.Native.Nat.{ℕ, ◌+◌, ◌<◌, ◌≤◌}
use native.Mathlib.Omega.{arith}
use mathlib.Core.List.{List, [], ◌∷◌}
use lib.Dec.{eqb}
use lib.ListN.{length, get_or, drop}
use lib.Seq.{drop-length}
use Rattle.base_fields.specs.declared.refusal.Refusal.{Refusal}
use Rattle.table_rows.specs.Row.{Row, rows_of, records_in, no_row}
use Rattle.table_rows.proofs.RowAt.{rows-length, from_row}
use Rattle.table_rows.specs.Joined.{joined_to, joined}
use Rattle.table_writing.specs.Remaining.{largest, largest_count}
use Rattle.table_rows.proofs.Choice.{either}
use Rattle.table_rows.proofs.Joining.{join_dropped, join-begun, join_last, join-empty, join-same, join-other}
use Rattle.table_rows.proofs.Joined.{joined_length}
use Rattle.table_writers.specs.Runs.{row, GivesNext}
use Rattle.table_writers.specs.declared.runs.RunAt.{RunAt}

-- a run so far of n samples of index x, and row k
module _ (rs : List Row) (k : ℕ) (h : k < length rs) where
  pub pass_step : (get_or rs k no_row).count ≡ 0 → joined (drop k rs) ≡ joined (drop (k + 1) rs)
  pass_step e = rw (from_row rs k h) (join_dropped (get_or rs k no_row) (drop (k + 1) rs) e)

  module _ (n x : ℕ) (begun : 0 < n) where
    pub join-skip : (get_or rs k no_row).count ≡ 0 → joined (row n x ∷ drop k rs) ≡ joined (row n x ∷ drop (k + 1) rs)
    join-skip e = rw (from_row rs k h) (join-empty (row n x) (get_or rs k no_row) (drop (k + 1) rs) begun e)

    pub join_more : 0 < (get_or rs k no_row).count → x ≡ (get_or rs k no_row).index → joined (row n x ∷ drop k rs) ≡ joined (row (n + (get_or rs k no_row).count) x ∷ drop (k + 1) rs)
    join_more s e = rw (from_row rs k h) (join-same (row n x) (get_or rs k no_row) (drop (k + 1) rs) begun s e)

    pub join-stop : 0 < (get_or rs k no_row).count → (x ≡ (get_or rs k no_row).index → ⊥) → joined (row n x ∷ drop k rs) ≡ row n x ∷ joined (drop k rs)
    join-stop s d = rw (from_row rs k h) (join-other (row n x) (get_or rs k no_row) (drop (k + 1) rs) begun s d)

-- no row is left
module _ (rs : List Row) (k : ℕ) (h : k ≡ length rs) where
  pub ahead-end : joined (drop k rs) ≡ []
  unfolding joined
  ahead-end = rw (h, drop-length rs) refl

  pub join-end : (n x : ℕ) → 0 < n → joined (row n x ∷ drop k rs) ≡ row n x ∷ joined (drop k rs)
  join-end n x begun = rw (ahead-end, h, drop-length rs) (join_last (row n x) begun)

-- a run only grows
to-largest : (r : Row) (qs : List Row) → r.count ≤ largest_count (joined_to r qs)
unfolding joined_to largest
to-largest r [] = omega arith
to-largest r (q ∷ qs) = either (λ (p : List Row). r.count ≤ largest_count p) (eqb r.index q.index) (λ t. omega arith) (λ f. omega arith)

pub join-largest : (r : Row) (rs : List Row) → 0 < r.count → r.count ≤ largest_count (joined (r ∷ rs))
join-largest r rs h = rw (join-begun r rs h) (to-largest r (joined rs))

-- a run found further on in rows that are the same
module _ (l : List ℕ) {rs qs : List Row} {p q : ℕ} (e : qs ≡ rs) (h : q ≤ p) where
  pub gives-from : (r : Result (Option RunAt) Refusal) → GivesNext rs l p r → GivesNext qs l q r
  gives-from (Ok (Some r)) g = record { rows = e ∙ g.rows; small = g.small; onward = omega (arith, g.onward); inside = g.inside }
  gives-from (Ok None) g = e ∙ g
  gives-from (Err n) g = (g.0, rw e g.1)

-- those that remain are no more
pub remain_length : (l : List ℕ) → length (joined (rows_of l)) ≤ records_in l
remain_length l = omega (arith, rows-length l, joined_length (rows_of l))
