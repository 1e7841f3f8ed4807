-- The invariant: whoever puts what is left from the present place has put the whole number from the first one.
use mathlib.Core.Path.{◌≡◌}
use mathlib.Core.List.{List}
use Prim.Native.Nat.{ℕ, ◌≤◌}
use lib.ListN.{length}
use Rattle.listing_theorem.specs.Groups.{groups}
use Rattle.listing_numbers.specs.Store.{Puts}
use Rattle.listing_numbers.proofs.put_number.Given as goal

abbrev pub invariant-loop-left : goal.invariant-loop-left
invariant-loop-left l =
    (l.left ≤ l.n) × (length l.out ≡ length l.initial.out) × ((after : List ℕ) (behind : ℕ) → Puts (groups l.left) l.place l.out after behind → Puts (groups l.n) l.at l.initial.out after behind)

abbrev pub decreases-loop-left : goal.decreases-loop-left
decreases-loop-left l = l.left
