-- What the functions of the pass ask for: the work of a repaint that was accepted.
use Rattle.std.specs.Prelude.{ℕ, ◌+◌, ◌≤◌, ◌<◌, ◌≡◌, List, ◌++◌, length}
use Rattle.base_fields.specs.Answer.{given}
use Rattle.base_ids.specs.Limits.{count_limit}
use Rattle.table_rows.specs.Row.{Row, records_in}
use Rattle.table_replay.specs.declared.enter.Tail.{Tail}
use Rattle.table_replay.proofs.Longest.{SmallCounts}
use Rattle.table_repaint.specs.Repaint.{repainted, stated_rows}
use Rattle.table_repaint.specs.Cut.{rows_with_all}
use Rattle.table_repaint.specs.Pass.{Work, work_of}

-- a run of n samples of index i can be put: the last row has a record, and a joined count does not pass the limit
abbrev pub FitsRun : List ℕ → Tail → ℕ → ℕ → Type 0
FitsRun l t n i = (t.rows ≤ records_in l) × (0 < n → 0 < t.rows → t.index ≡ i → t.count + n ≤ count_limit)

-- the rows `out` were made, and with the runs `rs` they become the rows `made`, for which there is room and which are within the count limit
pub record Putting (l : List ℕ) (made out rs : List Row) (w : Work) : Type 0 where
  pub work : w ≡ work_of l out
  pub rest : rows_with_all out rs ≡ made
  pub room : length made ≤ records_in l
  pub counts : SmallCounts made

-- the runs rs can be put
pub record ReadyFor (rs : List Row) (w : Work) : Type 0 where
  pub before : List ℕ
  pub made : List Row
  pub out : List Row
  pub rest : List Row
  pub putting : Putting before made out (rs ++ rest) w

-- the repaint was accepted, and no count of its rows passes the limit
pub record AcceptedRepaint (l : List ℕ) (stated a b i : ℕ) : Type 0 where
  pub rows : List Row
  pub gives : repainted l stated a b i ≡ given rows
  pub counts : SmallCounts (stated_rows l stated)
