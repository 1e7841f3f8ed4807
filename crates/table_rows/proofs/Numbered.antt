-- The numbers that the lookups refuse with: none is 0 or 255.
use mathlib.Core.List.{List}
use Prim.Native.Nat.{ℕ}
use lib.Dec.{ltb}
use borrow.Author.Rules.{rules}
use Rattle.base_fields.proofs.Numbered.{Number, Numbered, by-refuse_if}
use Rattle.base_ids.specs.Limits.{record_limit}
use Rattle.table_rows.specs.Row.{records_in, lookup, total}

pub lookup-numbered : (l : List ℕ) (k : ℕ) → Numbered (lookup l k)
lookup-numbered l k = by-refuse_if Number Unit (ltb record_limit (records_in l)) 55 _ (search rules) tt

pub total-numbered : (l : List ℕ) → Numbered (total l)
total-numbered l = by-refuse_if Number Unit (ltb record_limit (records_in l)) 55 _ (search rules) tt
