-- What the count needs of the laws: pieces entered one after the other, and the rows from record j on.
use mathlib.Core.Path.{◌≡◌, refl, ◌∙◌}
use Prim.Native.Nat.{ℕ, ◌+◌, ◌-◌, ◌≤◌, ◌<◌, min}
use mathlib.Core.List.{List, [], ◌∷◌}
use lib.ListN.{get_or, drop}
use Rattle.base_fields.specs.Answer.{Answer, given, none, refused, and_then}
use Rattle.base_fields.proofs.Answers.{and_then_assoc}
use Rattle.table_rows.specs.Row.{Row, no_row, rows_of, records_in}
use Rattle.table_replay.specs.declared.enter.Tail.{Tail}
use Rattle.table_repaint.specs.Repaint.{stated_rows}
use Rattle.table_repaint.specs.Cut.{run, three_runs, pieces, tail_run, tail_runs, tail_rows, tail_count}
use Rattle.table_repaint.proofs.Stated.{stated_row, stated_end}

-- pieces entered one after the other
module _ (room : ℕ) (t : Tail) (r : Row) where
  pub pieces-last : {a : Answer Tail} → a ≡ tail_run room t r → a ≡ tail_runs room t (r ∷ [])
  unfolding tail_runs
  pieces-last {a} e = e ∙ same (tail_run room t r)
    where
      same : (a : Answer Tail) → a ≡ and_then a (λ x. given x)
      same (given x) = refl
      same none = refl
      same (refused n) = refl

  module _ (rs : List Row) where
    pub pieces-stop : {n : ℕ} → refused n ≡ tail_run room t r → refused n ≡ tail_runs room t (r ∷ rs)
    unfolding tail_runs
    pieces-stop e = rw (← e)

    pub pieces-on : {a : Answer Tail} (next : Tail) → given next ≡ tail_run room t r → a ≡ tail_runs room next rs → a ≡ tail_runs room t (r ∷ rs)
    unfolding tail_runs
    pieces-on next e f = rw (← e) f

-- the rows from record j on
abbrev pub count_from : List ℕ → ℕ → ℕ → ℕ → ℕ → ℕ → ℕ → Tail → Answer ℕ
count_from l stated room j a b i t = tail_count room a b i t (drop j (stated_rows l stated))

module _ (l : List ℕ) (stated room j a b i : ℕ) (t : Tail) (fit : stated ≤ records_in l) where
  pub count-end : stated ≤ j → count_from l stated room j a b i t ≡ given t.rows
  unfolding tail_rows
  count-end h = rw (stated_end l stated fit j h)

  -- record j, of c samples of index v, cut at x and y
  module _ {c v x y : ℕ} (h : j < stated) (ec : c ≡ (get_or (rows_of l) j no_row).count) (ev : v ≡ (get_or (rows_of l) j no_row).index)
      (ex : x ≡ min c a) (ey : y ≡ min c b) where
    count_next : count_from l stated room j a b i t
        ≡ and_then (tail_runs room t (three_runs x y i (run c v))) (λ next. count_from l stated room (j + 1) (a - x) (b - y) i next)
    unfolding tail_rows pieces
    count_next =
        rw (stated_row l stated fit j h, ex, ey, ec, ev) (and_then_assoc (tail_runs room t (pieces a b i (get_or (rows_of l) j no_row))) _ _)

    pub count-on : {next : Tail} → given next ≡ tail_runs room t (three_runs x y i (run c v))
        → count_from l stated room j a b i t ≡ count_from l stated room (j + 1) (a - x) (b - y) i next
    count-on e = count_next ∙ rw (← e) refl

    pub count-refused : {n : ℕ} → refused n ≡ tail_runs room t (three_runs x y i (run c v)) → count_from l stated room j a b i t ≡ refused n
    count-refused e = count_next ∙ rw (← e) refl
