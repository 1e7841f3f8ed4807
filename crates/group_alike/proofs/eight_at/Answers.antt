-- The bytes one by one, each with its weight.
use mathlib.Core.Path.{◌≡◌}
use Prim.Native.Nat.{◌+◌}
use native.Mathlib.Omega.{arith}
use Rattle.group_alike.specs.Front.{low_first}
use Rattle.group_alike.proofs.eight_at.Goals as goal

pub returns : goal.returns
unfolding low_first
returns c = let p = c.args.at in let e : p + 0 ≡ p = omega arith in rw e (omega arith)
