-- The work of the pass in place: each run that is put is joined to the rows made so far, and what is read behind them is as it was.
use mathlib.Core.Path.{◌≡◌, refl}
use mathlib.Core.Bool.{Bool, true, false}
use Prim.Native.Nat.{ℕ, suc, ◌+◌, ◌-◌, ◌≤◌}
use native.Mathlib.Numerals.{add-one}
use native.Mathlib.Omega.{arith}
use borrow.Author.Tests.{ne_eqb}
use mathlib.Core.List.{List, [], ◌∷◌, reverse, reverse-cons}
use lib.Dec.{eqb}
use lib.ListN.{length, get_or, length-reverse}
use Rattle.base_fields.specs.Answer.{choose}
use Rattle.table_rows.specs.Row.{Row, no_row, rows_of, flat, records_in}
use Rattle.table_rows.proofs.Rows.{front, front-put, front-behind}
use Rattle.table_repaint.specs.Cut.{run, rows_with}
use Rattle.table_repaint.specs.Pass.{Work, with_last, joined_work, begun_work, put_run, work_of}

module _ (l : List ℕ) where
  pub stored-front : (out : List Row) → length out ≤ records_in l → with_last (work_of l out) ≡ front (reverse out) l
  unfolding with_last flat
  stored-front [] h = refl
  stored-front (q ∷ qs) h =
      let n : length (reverse qs) ≡ length qs = length-reverse qs in
      let place : suc (length qs) - 1 ≡ length (reverse qs) = omega arith in
      let f = ne_eqb (suc (length qs)) 0 (λ e. omega arith) in
      rw (f, place, reverse-cons q qs) (front-put (reverse qs) q l (omega arith))

  pub put-join : (out : List Row) (r : Row) → length out ≤ records_in l → put_run (work_of l out) r ≡ work_of l (rows_with out r)
  unfolding put_run rows_with
  put-join [] r h = by (eqb r.count 0)
    where
      by : (p : Bool) → choose p (work_of l []) (begun_work (work_of l []) r) ≡ work_of l (choose p [] (r ∷ []))
      by true = refl
      by false = rw (stored-front [] h)
  put-join (q ∷ qs) r h = rw (ne_eqb (suc (length qs)) 0 (λ e. omega arith)) (by (eqb r.count 0) (eqb q.index r.index))
    where
      w : Work
      w = work_of l (q ∷ qs)

      by : (p s : Bool) → choose p w (choose s (joined_work w r) (begun_work w r))
          ≡ work_of l (choose p (q ∷ qs) (choose s (run (q.count + r.count) r.index ∷ qs) (r ∷ q ∷ qs)))
      by true s = refl
      by false true = refl
      by false false = rw (stored-front (q ∷ qs) h, add-one)

  -- a record is read as it was while no more rows than it and those before it were made
  pub reads_unchanged : (out : List Row) (j : ℕ) → length out ≤ j + 1 → get_or (rows_of (work_of l out).numbers) j no_row ≡ get_or (rows_of l) j no_row
  reads_unchanged [] j h = refl
  reads_unchanged (q ∷ qs) j h = front-behind (reverse qs) l j (omega (arith, length-reverse qs))
