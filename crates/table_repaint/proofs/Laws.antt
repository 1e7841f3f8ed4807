-- The laws of A10: what the new rows tell, what the run holds afterwards, and that the same repaint again changes nothing.
use mathlib.Core.Path.{◌≡◌, ap, sym, ◌∙◌}
use Prim.Native.Nat.{ℕ, zero, suc, ◌*◌, ◌/◌, ◌≤◌, ◌<◌}
use native.Mathlib.Nat.{zero-add}
use native.Mathlib.Decide.{dec_lt}
use native.Mathlib.Omega.{arith}
use borrow.Author.Tests.{lt-leb, le-leb, lt-ltb, le-ltb}
use mathlib.Core.List.{List, []}
use lib.Dec.{ltb, leb}
use lib.ListN.{length, drop, length-reverse, get_or-eq_default}
use lib.Seq.{take-append_seam, drop_at}
use Rattle.base_fields.specs.Answer.{given, refused, choose}
use Rattle.table_rows.specs.Row.{Row, record_numbers, rows_of, flat, covered, index_at, expand, records_in}
use Rattle.table_rows.specs.Joined.{LongestRows}
use Rattle.table_rows.proofs.Samples.{index_at-expand, covered-expand}
use Rattle.table_rows.proofs.Rows.{flat-length, front_length, front-rows}
use Rattle.table_replay.proofs.Replay.{replay-expand, replay-room}
use Rattle.table_repaint.specs.Repaint.{changed, stated_rows, repainted, run_after}
use Rattle.table_repaint.proofs.Map.{changed-length, changed-at, changed-twice}
use Rattle.table_repaint.proofs.Joined.{replay-longest, reverse-longest}
use Rattle.table_repaint.proofs.Told.{Told, repaint_told, told_repaint}

-- a refused edit leaves the run
pub refused-stays : (l : List ℕ) (stated a b i : ℕ) {n : ℕ} → repainted l stated a b i ≡ refused n → run_after (repainted l stated a b i) l ≡ l
refused-stays l stated a b i e = rw e

-- rows in front of a run
module _ (l : List ℕ) (rs : List Row) (fit : length rs ≤ records_in l) where
  pub after-length : length (run_after (given rs) l) ≡ length l
  after-length = front_length rs l (omega arith)

  pub after-rows : stated_rows (run_after (given rs) l) (length rs) ≡ rs
  after-rows = rw (front-rows rs l) (take-append_seam rs (drop (length rs) (rows_of l)))

  pub after-behind : drop (record_numbers * length rs) (run_after (given rs) l) ≡ drop (record_numbers * length rs) l
  after-behind = drop_at (flat rs) (drop (record_numbers * length rs) l) (record_numbers * length rs) (flat-length rs)

  pub after-again : run_after (given rs) (run_after (given rs) l) ≡ run_after (given rs) l
  after-again = rw after-behind

-- an accepted repaint
module _ (l : List ℕ) (stated a b i : ℕ) {rs : List Row} (e : repainted l stated a b i ≡ given rs) where
  told : Told l stated a b i rs
  told = repaint_told l stated a b i e

  -- there was a row
  pub some_stated : 0 < stated
  unfolding covered
  some_stated = by stated told.stretch told.reach
    where
      by : (n : ℕ) → a < b → b ≤ covered (stated_rows l n) → 0 < n
      by zero h g = absurd (omega arith)
      by (suc n) h g = omega arith

  pub new_expand : expand rs ≡ changed a b i (expand (stated_rows l stated))
  unfolding expand
  new_expand =
      let samples = changed a b i (expand (stated_rows l stated)) in
      rw (← told.rows) (replay-expand (records_in l) [] samples told.replayed)

  -- the total stays
  pub new_covered : covered rs ≡ covered (stated_rows l stated)
  new_covered = covered-expand rs ∙ rw new_expand (changed-length a b i 0 (expand (stated_rows l stated)) ∙ sym (covered-expand (stated_rows l stated)))

  -- the index of every sample: the new one in the stretch, else what it had
  pub new_index : (k : ℕ) → index_at rs k ≡ choose (leb a k) (choose (ltb k b) i (index_at (stated_rows l stated) k)) (index_at (stated_rows l stated) k)
  new_index k =
      let old = stated_rows l stated in
      let xs = expand old in
      let size = covered-expand old in
      let n = changed-length a b i 0 xs in
      let reach = told.reach in
      let stretch = told.stretch in
      rw (index_at-expand rs k, new_expand, index_at-expand old k)
      (elim (dec_lt k (length xs)) [
        | yes h ↦ rw zero-add at (changed-at a b i 0 xs k h)
        | no h ↦
            let p : a ≤ k = omega arith in
            let q : b ≤ k = omega arith in
            rw (le-leb a k p, le-ltb k b q)
            (get_or-eq_default (changed a b i xs) 0 {n = k} (omega arith) ∙ sym (get_or-eq_default xs 0 {n = k} (omega arith)))
      ])

  pub new_inside : (k : ℕ) → a ≤ k → k < b → index_at rs k ≡ i
  new_inside k h g = rw (le-leb a k h, lt-ltb k b g) at (new_index k)

  pub new_before : (k : ℕ) → k < a → index_at rs k ≡ index_at (stated_rows l stated) k
  new_before k h = rw (lt-leb a k h) at (new_index k)

  pub new_behind : (k : ℕ) → b ≤ k → index_at rs k ≡ index_at (stated_rows l stated) k
  new_behind k h =
      let s = told.stretch in
      let p : a ≤ k = omega arith in
      rw (le-leb a k p, le-ltb k b h) at (new_index k)

  -- joined, none of count 0; with room and within the count limit; and no other rows are so
  pub new_longest : LongestRows rs
  new_longest =
      let samples = changed a b i (expand (stated_rows l stated)) in
      rw (← told.rows) (reverse-longest told.out (replay-longest (records_in l) [] samples told.replayed tt))

  pub new_room : length rs ≤ records_in l
  new_room =
      let samples = changed a b i (expand (stated_rows l stated)) in
      rw (← told.rows, length-reverse told.out) (replay-room (records_in l) [] samples told.replayed (omega arith))

  -- the same repaint again, of the rows that are there now, gives the same rows and leaves the run as it is
  pub again-rows : repainted (run_after (given rs) l) (length rs) a b i ≡ given rs
  again-rows =
      let after = run_after (given rs) l in
      let old = stated_rows l stated in
      let same : stated_rows after (length rs) ≡ rs = after-rows l rs new_room in
      let size : records_in after ≡ records_in l = ap (λ (n : ℕ). n / record_numbers) (after-length l rs new_room) in
      told_repaint after (length rs) a b i
      (record {
        few = rw size told.few;
        within = rw size new_room;
        stretch = told.stretch;
        reach = rw (same, new_covered) told.reach;
        out = told.out;
        replayed = rw (same, size, new_expand, changed-twice a b i 0 (expand old)) told.replayed;
        rows = told.rows;
      })

  pub again : run_after (repainted (run_after (given rs) l) (length rs) a b i) (run_after (given rs) l) ≡ run_after (given rs) l
  again = rw again-rows (after-again l rs new_room)
