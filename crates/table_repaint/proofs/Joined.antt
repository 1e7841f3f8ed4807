-- Rows that the replay makes cannot be joined further.
use mathlib.Core.Path.{◌≡◌, refl, sym, ◌∙◌}
use mathlib.Core.Bool.{Bool, true, false}
use Prim.Native.Nat.{ℕ, ◌+◌}
use native.Mathlib.Omega.{arith}
use borrow.Author.Tests.{eqb-true, eqb-false}
use mathlib.Core.List.{List, [], ◌∷◌, reverse, reverse_aux}
use lib.Dec.{leb, eqb}
use lib.ListN.{length}
use Rattle.base_fields.specs.Answer.{given, choose, refuse_if}
use Rattle.base_fields.proofs.Answers.{given_inj, given-past, given-first}
use Rattle.base_ids.specs.Limits.{count_limit}
use Rattle.table_rows.specs.Row.{Row}
use Rattle.table_replay.specs.Replay.{enter, replay}
use Rattle.table_rows.specs.Joined.{DiffersRow, LongestRows}
use Rattle.table_repaint.specs.Cut.{run}

-- one sample entered
longer : (r : Row) (rs : List Row) (i : ℕ) → r.index ≡ i → LongestRows (r ∷ rs) → LongestRows (run (r.count + 1) i ∷ rs)
longer r [] i e l = (omega arith, tt, tt)
longer r (q ∷ qs) i e l = (omega arith, (λ g. l.1 (e ∙ g)), l.2)

enter-longest : (room : ℕ) (rows : List Row) (i : ℕ) {next : List Row} → enter room rows i ≡ given next → LongestRows rows → LongestRows next
unfolding enter
enter-longest room [] i {next} e l =
    let same = given_inj (given-past (leb room 0) 29 (given (run 1 i ∷ [])) e).1 in
    rw (← same) (omega arith, tt, tt)
enter-longest room (r ∷ rs) i {next} e l = by (eqb r.index i) refl e
  where
    by : (p : Bool) → eqb r.index i ≡ p
        → choose p (refuse_if (leb count_limit r.count) 28 (given (run (r.count + 1) i ∷ rs)))
        (refuse_if (leb room (length (r ∷ rs))) 29 (given (run 1 i ∷ r ∷ rs))) ≡ given next
        → LongestRows next
    by true t e =
        let same = given_inj (given-past (leb count_limit r.count) 28 (given (run (r.count + 1) i ∷ rs)) e).1 in
        rw (← same) (longer r rs i (eqb-true r.index i t) l)
    by false f e =
        let same = given_inj (given-past (leb room (length (r ∷ rs))) 29 (given (run 1 i ∷ r ∷ rs)) e).1 in
        rw (← same) (omega arith, (λ g. eqb-false r.index i f (sym g)), l)

pub replay-longest : (room : ℕ) (rows : List Row) (is : List ℕ) {out : List Row} → replay room rows is ≡ given out → LongestRows rows → LongestRows out
unfolding replay
replay-longest room rows [] e l = rw (← given_inj e) l
replay-longest room rows (i ∷ is) e l =
    let first = given-first (enter room rows i) (λ next. replay room next is) e in
    replay-longest room first.0 is first.2 (enter-longest room rows i first.1 l)

-- the same the other way round
abbrev Meets : List Row → List Row → Type 0
Meets [] ys = Unit
Meets (a ∷ xs) ys = DiffersRow a ys

meets : (a : Row) (xs ys : List Row) → DiffersRow a xs → Meets xs (a ∷ ys)
meets a [] ys d = tt
meets a (p ∷ ps) ys d = λ e. d (sym e)

turned : (xs ys : List Row) → LongestRows xs → LongestRows ys → Meets xs ys → LongestRows (reverse_aux xs ys)
turned [] ys l m d = m
turned (a ∷ xs) ys l m d = turned xs (a ∷ ys) l.2 (l.0, d, m) (meets a xs ys l.1)

meets-none : (xs : List Row) → Meets xs []
meets-none [] = tt
meets-none (a ∷ xs) = tt

pub reverse-longest : (rs : List Row) → LongestRows rs → LongestRows (reverse rs)
reverse-longest rs l = turned rs [] l tt (meets-none rs)
