-- Part 4 of document 01: samples entered into rows one by one, up to the first that cannot be entered.
use Rattle.std.specs.Prelude.{ℕ, ◌+◌, List, [], ◌∷◌, leb, eqb, length}
use Rattle.base_fields.specs.Answer.{Answer, given, choose, refuse_if, and_then}
use Rattle.base_ids.specs.Limits.{count_limit}
use Rattle.table_rows.specs.Row.{Row}

-- one sample of index i entered into rows, the last row first. It joins the last row where the index is the same: 28 where the count
-- would pass the limit. Else it begins a new row: 29 where `room` rows stand already
unfoldable pub enter : ℕ → List Row → ℕ → Answer (List Row)
enter room [] i = refuse_if (leb room 0) 29 (given (record { count = 1; index = i } ∷ []))
enter room (r ∷ rs) i =
    choose (eqb r.index i)
    (refuse_if (leb count_limit r.count) 28 (given (record { count = r.count + 1; index = i } ∷ rs)))
    (refuse_if (leb room (length (r ∷ rs))) 29 (given (record { count = 1; index = i } ∷ r ∷ rs)))

-- samples entered one by one, up to the first that cannot be entered (part 4). Rows stand the last one first
unfoldable pub replay : ℕ → List Row → List ℕ → Answer (List Row)
replay room rows [] = given rows
replay room rows (i ∷ is) = and_then (enter room rows i) (λ next. replay room next is)
