-- Rows cut into runs at a and b, and runs joined to rows one by one: no sample is expanded.
use Rattle.std.specs.Prelude.{ℕ, ◌+◌, ◌-◌, min, List, [], ◌∷◌, ◌++◌, eqb}
use Rattle.base_fields.specs.Answer.{Answer, given, choose, and_then}
use Rattle.table_rows.specs.Row.{Row}
use Rattle.table_replay.specs.Enter.{enter_run}
use Rattle.table_replay.specs.declared.enter.Tail.{Tail}

abbrev pub run : ℕ → ℕ → Row
run n i = record { count = n; index = i }

-- a row in three runs, of which some may be empty: its first x samples, those before sample y with the index i, the others
abbrev pub three_runs : ℕ → ℕ → ℕ → Row → List Row
three_runs x y i r = run x r.index ∷ run (y - x) i ∷ run (r.count - y) r.index ∷ []

-- cut at a and b, which count from the row's first sample and may lie behind it
unfoldable pub pieces : ℕ → ℕ → ℕ → Row → List Row
pieces a b i r = three_runs (min r.count a) (min r.count b) i r

-- all rows; what is left of a and b is counted from the next row's first sample
unfoldable pub rows_cut : ℕ → ℕ → ℕ → List Row → List Row
rows_cut a b i [] = []
rows_cut a b i (r ∷ rs) = pieces a b i r ++ rows_cut (a - min r.count a) (b - min r.count b) i rs

-- a run behind rows, the last row first: it joins the last row or begins a new one; an empty run does nothing
unfoldable pub rows_with : List Row → Row → List Row
rows_with [] r = choose (eqb r.count 0) [] (r ∷ [])
rows_with (q ∷ qs) r =
    choose (eqb r.count 0) (q ∷ qs) (choose (eqb q.index r.index) (run (q.count + r.count) r.index ∷ qs) (r ∷ q ∷ qs))

unfoldable pub rows_with_all : List Row → List Row → List Row
rows_with_all out [] = out
rows_with_all out (r ∷ rs) = rows_with_all (rows_with out r) rs

-- the same by the tail of the rows, with the replay's refusals: 28, 29
unfoldable pub tail_run : ℕ → Tail → Row → Answer Tail
tail_run room t r = choose (eqb r.count 0) (given t) (enter_run room t r.count r.index)

unfoldable pub tail_runs : ℕ → Tail → List Row → Answer Tail
tail_runs room t [] = given t
tail_runs room t (r ∷ rs) = and_then (tail_run room t r) (λ next. tail_runs room next rs)

-- row by row
unfoldable pub tail_rows : ℕ → ℕ → ℕ → ℕ → Tail → List Row → Answer Tail
tail_rows room a b i t [] = given t
tail_rows room a b i t (r ∷ rs) =
    and_then (tail_runs room t (pieces a b i r)) (λ next. tail_rows room (a - min r.count a) (b - min r.count b) i next rs)

-- how many rows there are then
abbrev pub tail_count : ℕ → ℕ → ℕ → ℕ → Tail → List Row → Answer ℕ
tail_count room a b i t rs = and_then (tail_rows room a b i t rs) (λ last. given last.rows)
