-- The pass in place begins with nothing made, and what it makes are the new rows. Few are added: at most two.
use mathlib.Core.Path.{◌≡◌, refl, ap, sym, ◌∙◌}
use Prim.Native.Nat.{ℕ, ◌+◌, ◌-◌, ◌≤◌, min}
use native.Mathlib.Omega.{arith}
use mathlib.Core.List.{List, [], ◌∷◌, reverse}
use lib.ListN.{length, get_or, length-reverse}
use Rattle.base_fields.specs.Answer.{given}
use Rattle.table_rows.specs.Row.{Row, no_row, rows_of, expand, records_in}
use Rattle.table_replay.specs.Enter.{tail_of}
use Rattle.table_replay.proofs.Longest.{SmallCounts}
use Rattle.table_repaint.specs.Repaint.{changed, stated_rows, repainted}
use Rattle.table_repaint.specs.Cut.{pieces, rows_cut, rows_with_all}
use Rattle.table_repaint.specs.Pass.{work_in}
use Rattle.table_repaint.proofs.Runs.{some, runs-joined, all_append}
use Rattle.table_repaint.proofs.Counts.{replay-counts}
use Rattle.table_repaint.proofs.Cut.{some_one, pieces-few, expand-cut, cut-counts}
use Rattle.table_repaint.proofs.Stated.{stated_length, stated_row}
use Rattle.table_repaint.proofs.Turn.{Turn}
use Rattle.table_repaint.proofs.Told.{repaint_told}
use Rattle.table_repaint.proofs.Laws.{some_stated, new_room}

-- the rows made of cut rows: one for each, and one more for each of a and b that lies ahead
pub joins-few : (out : List Row) (a b i : ℕ) (rs : List Row) → a ≤ b → length (rows_with_all out (rows_cut a b i rs)) ≤ length out + length rs + some a + some b
unfolding rows_with_all rows_cut
joins-few out a b i [] h = omega arith
joins-few out a b i (r ∷ rs) h =
    let x = a - min r.count a in
    let y = b - min r.count b in
    let next = rows_with_all out (pieces a b i r) in
    rw (all_append out (pieces a b i r) (rows_cut x y i rs)) (omega (arith, pieces-few out a b i r h, joins-few next x y i rs (omega arith)))

-- an accepted repaint of rows whose counts are within the limit
module _ (l : List ℕ) (stated a b i : ℕ) {rs : List Row} (e : repainted l stated a b i ≡ given rs) (c : SmallCounts (stated_rows l stated)) where
  -- the new rows are the runs of the old ones, joined one by one
  made : rows_with_all [] (rows_cut a b i (stated_rows l stated)) ≡ (repaint_told l stated a b i e).out
  made =
      let told = repaint_told l stated a b i e in
      let s = told.stretch in
      let old = stated_rows l stated in
      runs-joined (records_in l) [] (rows_cut a b i old) (omega arith) (cut-counts a b i old c) (rw (expand-cut a b i (omega arith) old) told.replayed)

  pub new_joined : rs ≡ reverse (rows_with_all [] (rows_cut a b i (stated_rows l stated)))
  new_joined = sym (repaint_told l stated a b i e).rows ∙ ap reverse (sym made)

  made-counts : SmallCounts (rows_with_all [] (rows_cut a b i (stated_rows l stated)))
  made-counts = rw made (replay-counts (records_in l) [] (changed a b i (expand (stated_rows l stated))) (repaint_told l stated a b i e).replayed tt)

  pub new_few : length rs ≤ stated + 2
  new_few =
      let told = repaint_told l stated a b i e in
      let s = told.stretch in
      let w = told.within in
      let old = stated_rows l stated in
      let size : length old ≡ stated = stated_length l stated w in
      let made = rows_with_all [] (rows_cut a b i old) in
      let n : length rs ≡ length made = ap length new_joined ∙ length-reverse made in
      omega (arith, joins-few [] a b i old (omega arith), some_one a, some_one b)

  -- the pass begins with nothing made
  pub first-turn : Turn l (rows_with_all [] (rows_cut a b i (stated_rows l stated))) stated 1 (get_or (rows_of l) 0 no_row) a b i (work_in l (tail_of []))
  first-turn =
      let told = repaint_told l stated a b i e in
      let s = told.stretch in
      let w = told.within in
      let made = rows_with_all [] (rows_cut a b i (stated_rows l stated)) in
      record {
        out = [];
        putting =
            record {
              work = refl;
              rest = rw (← stated_row l stated w 0 (some_stated l stated a b i e));
              room = omega (arith, new_room l stated a b i e, ap length new_joined, length-reverse made);
              counts = made-counts;
            };
        order = omega arith;
        behind = omega (arith, some_one a, some_one b);
      }
