-- The numbers that the replay refuses with: none is 0 or 255.
use mathlib.Core.List.{List, [], ◌∷◌}
use Prim.Native.Nat.{ℕ}
use lib.Dec.{leb, eqb}
use lib.ListN.{length}
use borrow.Author.Rules.{rules}
use Rattle.base_fields.proofs.Numbered.{Number, Numbered, by-choose, by-refuse_if, by-and_then}
use Rattle.base_ids.specs.Limits.{count_limit}
use Rattle.table_rows.specs.Row.{Row}
use Rattle.table_replay.specs.Replay.{enter, replay}

module _ (room : ℕ) where
  enter-numbered : (rows : List Row) (i : ℕ) → Numbered (enter room rows i)
  unfolding enter
  enter-numbered [] i = by-refuse_if Number Unit (leb room 0) 29 _ (search rules) tt
  enter-numbered (r ∷ rs) i =
      by-choose Number Unit (eqb r.index i) _ _
      (by-refuse_if Number Unit (leb count_limit r.count) 28 _ (search rules) tt)
      (by-refuse_if Number Unit (leb room (length (r ∷ rs))) 29 _ (search rules) tt)

  pub replay-numbered : (is : List ℕ) (rows : List Row) → Numbered (replay room rows is)
  unfolding replay
  replay-numbered [] rows = tt
  replay-numbered (i ∷ is) rows = by-and_then Number Unit (enter room rows i) _ (enter-numbered rows i) (λ next e. replay-numbered is next)
