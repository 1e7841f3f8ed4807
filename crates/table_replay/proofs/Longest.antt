-- Rows that cannot be joined further: their samples, entered one by one, are these rows again.
use mathlib.Core.Path.{◌≡◌, refl}
use Prim.Native.Nat.{ℕ, ◌+◌, ◌≤◌}
use native.Mathlib.Omega.{arith}
use mathlib.Core.List.{List, [], ◌∷◌, reverse_aux}
use lib.ListN.{length}
use Rattle.base_fields.specs.Answer.{given}
use Rattle.base_ids.specs.Limits.{count_limit}
use Rattle.table_rows.specs.Row.{Row, expand}
use Rattle.table_rows.specs.Joined.{DiffersRow, LongestRows}
use Rattle.table_replay.specs.Replay.{replay}
use Rattle.table_replay.proofs.Replay.{Begins, replay_append, replay-begin}

-- each count is within its limit
abbrev pub SmallCounts : List Row → Type 0
SmallCounts [] = Unit
SmallCounts (r ∷ rs) = (r.count ≤ count_limit) × SmallCounts rs

-- the first of the rows begins a new row
abbrev pub Follows : List Row → List Row → Type 0
Follows below [] = Unit
Follows below (r ∷ rs) = Begins below r.index

pub follows : (r : Row) (below rs : List Row) → DiffersRow r rs → Follows (r ∷ below) rs
follows r below [] d = tt
follows r below (q ∷ qs) d = d

pub follows-none : (rs : List Row) → Follows [] rs
follows-none [] = tt
follows-none (r ∷ rs) = tt

-- behind the rows below, the last of them first
pub replay-rows : (room : ℕ) (below rs : List Row) → LongestRows rs → SmallCounts rs → Follows below rs → length below + length rs ≤ room →
    replay room below (expand rs) ≡ given (reverse_aux rs below)
unfolding expand replay
replay-rows room below [] l c f h = refl
replay-rows room below (r ∷ rs) l c f h =
    rw (replay_append, replay-begin room below r.index r.count f (omega arith) l.0 c.0)
    (replay-rows room (r ∷ below) rs l.2 c.1 (follows r below rs l.1) (omega arith))
