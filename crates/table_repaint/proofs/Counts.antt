-- Counts within the limit: those of the stated rows, and those of the rows that the replay makes.
use mathlib.Core.Path.{◌≡◌}
use mathlib.Core.Bool.{Bool, true, false}
use Prim.Native.Nat.{ℕ, zero, suc, ◌+◌, ◌≤◌, ◌<◌}
use native.Mathlib.Omega.{arith}
use borrow.Author.Tests.{leb-false}
use mathlib.Core.List.{List, [], ◌∷◌, reverse, reverse_aux}
use lib.Dec.{leb, eqb}
use lib.ListN.{length, get_or, take}
use Rattle.base_fields.specs.Answer.{given, choose, refuse_if}
use Rattle.base_fields.specs.Number.{field_bound}
use Rattle.base_fields.proofs.Answers.{given_inj, given-past, given-first}
use Rattle.base_ids.specs.Limits.{count_limit}
use Rattle.table_rows.specs.Row.{Row, no_row, rows_of}
use Rattle.table_rows.proofs.RowAt.{count_small}
use Rattle.table_replay.specs.Replay.{enter, replay}
use Rattle.table_replay.proofs.Longest.{SmallCounts}
use Rattle.table_repaint.specs.Repaint.{stated_rows}
use Rattle.table_repaint.specs.Cut.{run}

each-small : (rs : List Row) → ((k : ℕ) → (get_or rs k no_row).count ≤ count_limit) → SmallCounts rs
each-small [] h = tt
each-small (r ∷ rs) h = (h 0, each-small rs (λ k. h (suc k)))

take-counts : (n : ℕ) (rs : List Row) → SmallCounts rs → SmallCounts (take n rs)
take-counts zero rs c = tt
take-counts (suc n) [] c = tt
take-counts (suc n) (r ∷ rs) c = (c.0, take-counts n rs c.1)

-- the rows of a run of 32-bit numbers
pub stated_counts : (l : List ℕ) (stated : ℕ) → ((k : ℕ) → get_or l k 0 < field_bound) → SmallCounts (stated_rows l stated)
stated_counts l stated h = take-counts stated (rows_of l) (each-small (rows_of l) (count_small l h))

-- the replay passes no limit
enter-counts : (room : ℕ) (rows : List Row) (i : ℕ) {next : List Row} → enter room rows i ≡ given next → SmallCounts rows → SmallCounts next
unfolding enter
enter-counts room [] i e c = rw (← given_inj (given-past (leb room 0) 29 (given (run 1 i ∷ [])) e).1) (omega arith, tt)
enter-counts room (r ∷ rs) i {next} e c = by (eqb r.index i) e
  where
    by : (p : Bool)
        → choose p (refuse_if (leb count_limit r.count) 28 (given (run (r.count + 1) i ∷ rs)))
        (refuse_if (leb room (length (r ∷ rs))) 29 (given (run 1 i ∷ r ∷ rs))) ≡ given next
        → SmallCounts next
    by true e =
        let past = given-past (leb count_limit r.count) 28 (given (run (r.count + 1) i ∷ rs)) e in
        let small = leb-false count_limit r.count past.0 in
        rw (← given_inj past.1) (omega arith, c.1)
    by false e = rw (← given_inj (given-past (leb room (length (r ∷ rs))) 29 (given (run 1 i ∷ r ∷ rs)) e).1) (omega arith, c)

pub replay-counts : (room : ℕ) (rows : List Row) (is : List ℕ) {out : List Row} → replay room rows is ≡ given out → SmallCounts rows → SmallCounts out
unfolding replay
replay-counts room rows [] e c = rw (← given_inj e) c
replay-counts room rows (i ∷ is) e c =
    let first = given-first (enter room rows i) (λ next. replay room next is) e in
    replay-counts room first.0 is first.2 (enter-counts room rows i first.1 c)

turned-counts : (xs ys : List Row) → SmallCounts xs → SmallCounts ys → SmallCounts (reverse_aux xs ys)
turned-counts [] ys c d = d
turned-counts (x ∷ xs) ys c d = turned-counts xs (x ∷ ys) c.1 (c.0, d)

pub reverse-counts : (rs : List Row) → SmallCounts rs → SmallCounts (reverse rs)
reverse-counts rs c = turned-counts rs [] c tt
