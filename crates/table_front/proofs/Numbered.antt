-- The numbers that the front of a table refuses with.
use mathlib.Core.List.{List}
use Prim.Native.Nat.{ℕ, ◌+◌}
use lib.Dec.{ltb}
use lib.ListN.{length}
use Rattle.base_fields.specs.Answer.{Answer}
use Rattle.base_fields.proofs.Numbered.{RefusesBy, by-refuse_if, by-within}
use Rattle.table_front.specs.Front.{count_place, fronted}
use Rattle.table_front.specs.declared.TableKind.{TableKind}

module _ (R : ℕ → Type 0) (N : Type 0) (s : List ℕ) where
  pub front_by : {A : Type 0} → R 55 × R 20 × R 21 × R 22 → (kind : TableKind) (rest : Answer A) → RefusesBy R N rest → RefusesBy R N (fronted kind s rest)
  front_by r kind rest f =
      by-within R N s _ r.0
      (by-refuse_if R N (ltb (length s) 8) 20 _ r.1
      (by-refuse_if R N (ltb (length s) (count_place kind s)) 21 _ r.2 (by-refuse_if R N (ltb (length s) (count_place kind s + 4)) 22 _ r.3 f)))
