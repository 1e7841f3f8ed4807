-- What the functions of the pass need of its laws.
use mathlib.Core.Path.{◌≡◌}
use Prim.Native.Nat.{ℕ, ◌+◌, ◌-◌, ◌≤◌, ◌<◌, min}
use native.Mathlib.Omega.{arith}
use mathlib.Core.List.{List, [], ◌∷◌, reverse}
use lib.ListN.{length, get_or}
use Rattle.table_rows.specs.Row.{Row, no_row, rows_of, records_in}
use Rattle.table_rows.proofs.Rows.{front}
use Rattle.table_replay.specs.declared.enter.Tail.{Tail}
use Rattle.table_replay.specs.Enter.{tail_of}
use Rattle.table_repaint.specs.Repaint.{stated_rows, repainted, run_after}
use Rattle.table_repaint.specs.Cut.{run, three_runs, pieces, rows_cut, rows_with, rows_with_all}
use Rattle.table_repaint.specs.Pass.{Work, work_in, with_last, put_run, put_runs}
use Rattle.table_repaint.specs.Ready.{FitsRun, Putting, ReadyFor, AcceptedRepaint}
use Rattle.table_repaint.proofs.Told.{repaint_told}
use Rattle.table_repaint.proofs.Stated.{stated_end}
use Rattle.table_repaint.proofs.Turn.{put-room, put-length, put-sum, put_next, put-end, Turn, rest_of, turn-put, turn-next}
use Rattle.table_repaint.proofs.Laws.{some_stated}
use Rattle.table_repaint.proofs.InPlace.{first-turn, new_joined}

-- a run that is the next to be put
module _ {n i : ℕ} {rs : List Row} where
  pub ready-fits : {l : List ℕ} {t : Tail} → ReadyFor (run n i ∷ rs) (work_in l t) → FitsRun l t n i
  ready-fits r = let p = r.putting in (omega (arith, put-room p, put-length p), put-sum p)

  pub ready-next : {l : List ℕ} {t : Tail} {w : Work} → ReadyFor (run n i ∷ rs) w → work_in l t ≡ put_run w (run n i) → ReadyFor rs (work_in l t)
  ready-next r e =
      rw e
      (record {
        before = r.before;
        made = r.made;
        out = rows_with r.out (run n i);
        rest = r.rest;
        putting = put_next r.putting;
      })

-- before a row of c samples of index v, which is cut at x and y
module _ {l : List ℕ} {made : List Row} {stated j c v a b i : ℕ} {m : List ℕ} {t : Tail} (turn : Turn l made stated j (run c v) a b i (work_in m t))
    {x y : ℕ} (ex : x ≡ min c a) (ey : y ≡ min c b) where
  pub cuts-ready : (x ≤ y) × (y ≤ c) × ReadyFor (three_runs x y i (run c v)) (work_in m t)
  unfolding rows_cut pieces
  cuts-ready =
      let h = turn.order in (
        omega arith,
        omega arith,
        rw (ex, ey) (record { before = l; made = made; out = turn.out; rest = rest_of turn; putting = turn.putting }),
      )

  -- once its runs were put
  module _ {m' : List ℕ} {t' : Tail} (e : work_in m' t' ≡ put_runs (work_in m t) (three_runs x y i (run c v))) where
    by-cuts : work_in m' t' ≡ put_runs (work_in m t) (pieces a b i (run c v))
    unfolding pieces
    by-cuts = rw (ex, ey) at e

    cuts-put : Putting l made (rows_with_all turn.out (pieces a b i (run c v))) (rest_of turn) (work_in m' t')
    cuts-put = rw by-cuts (turn-put turn)

    pub cuts-length : length m' ≡ length l
    cuts-length = put-length cuts-put

    -- the last row has a record
    pub cuts-room : t'.rows ≤ records_in m'
    cuts-room = omega (arith, put-room cuts-put, cuts-length)

    module _ (fit : stated ≤ records_in l) where
      -- the row that was read ahead comes next
      pub cuts-next : {c' v' : ℕ} → j < stated → c' ≡ (get_or (rows_of m) j no_row).count → v' ≡ (get_or (rows_of m) j no_row).index
          → Turn l made stated (j + 1) (run c' v') (a - x) (b - y) i (work_in m' t')
      cuts-next h ec ev = rw (by-cuts, ec, ev, ex, ey) (turn-next turn h fit)

      pub cuts-end : stated ≤ j → with_last (work_in m' t') ≡ front (reverse made) l
      unfolding rows_cut
      cuts-end h = put-end (rw (stated_end l stated fit j h) at cuts-put)

-- the rows that a repaint makes, the last one first
abbrev pub made_of : List ℕ → ℕ → ℕ → ℕ → ℕ → List Row
made_of l stated a b i = rows_with_all [] (rows_cut a b i (stated_rows l stated))

module _ {l : List ℕ} {stated a b i : ℕ} (ok : AcceptedRepaint l stated a b i) where
  pub stated_fits : (0 < stated) × (stated ≤ records_in l)
  stated_fits = (some_stated l stated a b i ok.gives, (repaint_told l stated a b i ok.gives).within)

  -- before the first row
  pub first-ready : {c v : ℕ} → c ≡ (get_or (rows_of l) 0 no_row).count → v ≡ (get_or (rows_of l) 0 no_row).index
      → Turn l (made_of l stated a b i) stated 1 (run c v) a b i (work_in l (tail_of []))
  first-ready ec ev = rw (ec, ev) (first-turn l stated a b i ok.gives ok.counts)

  pub front-made : front (reverse (made_of l stated a b i)) l ≡ run_after (repainted l stated a b i) l
  front-made = rw (ok.gives, new_joined l stated a b i ok.gives ok.counts)
