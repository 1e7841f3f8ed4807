-- The sync tables refuse with the papers' numbers: none is 0 or 255.
use mathlib.Core.Bool.{not}
use mathlib.Core.List.{List}
use Prim.Native.Nat.{ℕ, ◌+◌, ◌*◌}
use lib.Dec.{ltb, leb, eqb}
use lib.ListN.{length}
use borrow.Author.Rules.{rules}
use Rattle.base_fields.specs.Number.{be_at}
use Rattle.base_fields.proofs.Numbered.{Number, Numbered, by-refuse_if, by-none_if, by-within, by-and_then}
use Rattle.table_sync.specs.Sync.{numbers_in, rising, stss, is_sync, last_up_to, last_sync, dependencies_in, dependency_at}

module _ (s : List ℕ) where
  stss-numbered : Numbered (stss s)
  unfolding stss
  stss-numbered =
      by-within Number Unit s _ (search rules)
      (by-refuse_if Number Unit (ltb (length s) 8) 65 _ (search rules)
      (by-refuse_if Number Unit (ltb (length s) (8 + 4 * be_at 4 s 4)) 65 _ (search rules)
      (by-refuse_if Number Unit (not (rising 0 (numbers_in s))) 66 _ (search rules) tt)))

  module _ (k : ℕ) where
    pub sync_numbered : Numbered (is_sync s k)
    sync_numbered = by-and_then Number Unit (stss s) _ stss-numbered (λ l e. tt)

    pub last-numbered : Numbered (last_sync s k)
    last-numbered = by-and_then Number Unit (stss s) _ stss-numbered (λ l e. by-none_if Number Unit (eqb (last_up_to (k + 1) l) 0) _ tt tt)

    pub dependency-numbered : Numbered (dependency_at s k)
    unfolding dependency_at
    dependency-numbered =
        by-within Number Unit s _ (search rules)
        (by-refuse_if Number Unit (ltb (length s) 4) 65 _ (search rules) (by-none_if Number Unit (leb (length (dependencies_in s)) k) _ tt tt))
