-- The rows of the table, one by one.
use Prim.Native.Nat.{ℕ, zero, suc}
use mathlib.Core.List.{List, [], ◌∷◌, ◌++◌}
use mathlib.Core.Path.{refl}
use Rattle.test_starred.specs.Case.{Case, Holds, AllHold, case_at}
use Rattle.test_starred.specs.All.{cases}
use Rattle.test_starred.proofs.Starred.{starred}

held : (k : ℕ) (cs : List Case) → AllHold cs → Holds (case_at k cs)
held k [] hs = refl
held zero (c ∷ cs) hs = hs.0
held (suc k) (c ∷ cs) hs = held k cs hs.1

-- row k, counted from 0
pub row : (k : ℕ) → Holds (case_at k cases)
row k = held k cases starred

-- two tables, one behind the other
pub both : (xs ys : List Case) → AllHold xs → AllHold ys → AllHold (xs ++ ys)
both [] ys hs ks = ks
both (c ∷ xs) ys hs ks = (hs.0, both xs ys hs.1 ks)
