-- Laws of big-endian numbers, over the width.
use mathlib.Core.Path.{◌≡◌}
use Prim.Native.Nat.{ℕ, zero, suc, ◌+◌, ◌*◌, ◌^◌}
use native.Mathlib.Nat.{add-zero, add-suc, add_assoc, mul_assoc, pow-suc}
use native.Mathlib.Omega.{arith}
use mathlib.Core.List.{List}
use lib.ListN.{get_or}
use Rattle.base_fields.specs.Number.{be_at}

pub be_at-one : (s : List ℕ) (p : ℕ) → be_at 1 s p ≡ get_or s p 0
unfolding be_at
be_at-one s p = rw add-zero (omega arith)

-- m bytes and then n more
pub be_at-split : (m n : ℕ) (s : List ℕ) (p : ℕ) → be_at (m + n) s p ≡ be_at m s p * 256 ^ n + be_at n s (p + m)
unfolding be_at
be_at-split m zero s p = rw add-zero (omega arith)
be_at-split m (suc n) s p = rw (add-suc, add_assoc, pow-suc) (omega (arith, be_at-split m n s p, mul_assoc (be_at m s p) (256 ^ n) 256))
