-- The invariant of the pass in place, for the loop: what holds before each run is put, and before each row.
use mathlib.Core.Path.{◌≡◌, refl, ap}
use Prim.Native.Nat.{ℕ, ◌+◌, ◌-◌, ◌≤◌, ◌<◌, min}
use native.Mathlib.Omega.{arith}
use mathlib.Core.List.{List, [], ◌∷◌, ◌++◌, reverse}
use lib.ListN.{length, get_or, drop, length-reverse}
use Rattle.base_ids.specs.Limits.{count_limit}
use Rattle.table_rows.specs.Row.{Row, no_row, rows_of, records_in}
use Rattle.table_rows.proofs.Rows.{front, front_length}
use Rattle.table_replay.proofs.Longest.{SmallCounts}
use Rattle.table_repaint.specs.Repaint.{stated_rows}
use Rattle.table_repaint.specs.Cut.{pieces, rows_cut, rows_with, rows_with_all}
use Rattle.table_repaint.specs.Pass.{Work, with_last, put_run, put_runs, work_of}
use Rattle.table_repaint.specs.Ready.{Putting}
use Rattle.table_repaint.proofs.Runs.{some, all_grow, with-counts, all-counts}
use Rattle.table_repaint.proofs.Cut.{pieces-few}
use Rattle.table_repaint.proofs.Stated.{stated_row}
use Rattle.table_repaint.proofs.Pass.{stored-front, put-join, reads_unchanged}

module _ {l : List ℕ} {made out : List Row} where
  -- the rows made so far have room
  made-fits : {rs : List Row} {w : Work} → Putting l made out rs w → length out ≤ records_in l
  made-fits {rs} p = omega (arith, p.room, ap length p.rest, all_grow out rs)

  -- the record where the last row is stored is within the run
  pub put-room : {rs : List Row} {w : Work} → Putting l made out rs w → w.tail.rows ≤ records_in l
  put-room p = rw p.work (by out (made-fits p))
    where
      by : (out : List Row) → length out ≤ records_in l → (work_of l out).tail.rows ≤ records_in l
      by [] h = omega arith
      by (q ∷ qs) h = h

  pub put-length : {rs : List Row} {w : Work} → Putting l made out rs w → length w.numbers ≡ length l
  put-length p = rw p.work (by out (made-fits p))
    where
      by : (out : List Row) → length out ≤ records_in l → length (work_of l out).numbers ≡ length l
      by [] h = refl
      by (q ∷ qs) h = front_length (reverse qs) l (omega (arith, length-reverse qs))

  -- a run that joins the last row does not pass the limit
  pub put-sum : {r : Row} {rs : List Row} {w : Work} → Putting l made out (r ∷ rs) w
      → 0 < r.count → 0 < w.tail.rows → w.tail.index ≡ r.index → w.tail.count + r.count ≤ count_limit
  unfolding rows_with_all
  put-sum {r} {rs} p h =
      let c : SmallCounts (rows_with out r) = all-counts (rows_with out r) rs (rw p.rest p.counts) in
      rw p.work (by out c)
    where
      by : (out : List Row) → SmallCounts (rows_with out r)
          → 0 < (work_of l out).tail.rows → (work_of l out).tail.index ≡ r.index → (work_of l out).tail.count + r.count ≤ count_limit
      by [] c g e = absurd (omega arith)
      by (q ∷ qs) c g e = with-counts q qs r h e c

  pub put_next : {r : Row} {rs : List Row} {w : Work} → Putting l made out (r ∷ rs) w → Putting l made (rows_with out r) rs (put_run w r)
  unfolding rows_with_all
  put_next {r} {rs} p =
      record {
        work = rw p.work (put-join l out r (made-fits p));
        rest = p.rest;
        room = p.room;
        counts = p.counts;
      }

  -- all rows were made
  pub put-end : {w : Work} → Putting l made out [] w → with_last w ≡ front (reverse made) l
  unfolding rows_with_all
  put-end p = rw (p.work, ← p.rest) (stored-front l out (made-fits p))

pub puts-next : {l : List ℕ} {made out : List Row} (rs : List Row) {ts : List Row} {w : Work}
    → Putting l made out (rs ++ ts) w → Putting l made (rows_with_all out rs) ts (put_runs w rs)
unfolding rows_with_all put_runs
puts-next [] p = p
puts-next {l = l} {made = made} {out = out} (r ∷ rs) {ts = ts} {w = w} p = puts-next {out = rows_with out r} rs (put_next p)

-- before the row `ahead`, with the stated rows from row j on behind it: j rows were read, and all but the last new row are stored,
-- fewer than j + 1
pub record Turn (l : List ℕ) (made : List Row) (stated j : ℕ) (ahead : Row) (a b i : ℕ) (w : Work) : Type 0 where
  pub out : List Row
  pub putting : Putting l made out (rows_cut a b i (ahead ∷ drop j (stated_rows l stated))) w
  pub order : a ≤ b
  pub behind : length out + some a + some b ≤ j + 1

module _ {l : List ℕ} {made : List Row} {stated j : ℕ} {ahead : Row} {a b i : ℕ} {w : Work} (t : Turn l made stated j ahead a b i w) where
  -- record j is as it was
  pub turn-reads : get_or (rows_of w.numbers) j no_row ≡ get_or (rows_of l) j no_row
  turn-reads = rw t.putting.work (reads_unchanged l t.out j (omega (arith, t.behind)))

  abbrev pub rest_of : List Row
  rest_of = rows_cut (a - min ahead.count a) (b - min ahead.count b) i (drop j (stated_rows l stated))

  -- once the row ahead was put
  pub turn-put : Putting l made (rows_with_all t.out (pieces a b i ahead)) rest_of (put_runs w (pieces a b i ahead))
  unfolding rows_cut
  turn-put = puts-next (pieces a b i ahead) t.putting

  pub turn-next : j < stated → stated ≤ records_in l
      → Turn l made stated (j + 1) (get_or (rows_of w.numbers) j no_row) (a - min ahead.count a) (b - min ahead.count b) i (put_runs w (pieces a b i ahead))
  turn-next h fit =
      let order = t.order in
      rw turn-reads
      (record {
        out = rows_with_all t.out (pieces a b i ahead);
        putting = rw (stated_row l stated fit j h) at turn-put;
        order = omega arith;
        behind = omega (arith, t.behind, pieces-few t.out a b i ahead order);
      })
