-- The numbers that a set refuses with: none is 0 or 255.
use mathlib.Core.List.{List}
use Prim.Native.Nat.{ℕ}
use lib.Dec.{ltb}
use borrow.Author.Rules.{rules}
use Rattle.base_fields.proofs.Numbered.{Number, Numbered, by-refuse_if}
use Rattle.base_ids.specs.Limits.{record_limit}
use Rattle.table_rows.specs.Row.{records_in}
use Rattle.table_play_head.specs.Turn.{set_told}

pub set-numbered : (l : List ℕ) (k : ℕ) → Numbered (set_told l k)
set-numbered l k = by-refuse_if Number Unit (ltb record_limit (records_in l)) 55 _ (search rules) tt
