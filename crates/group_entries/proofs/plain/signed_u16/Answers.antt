use mathlib.Core.Path.{◌≡◌, refl, ap, ◌∙◌}
use Prim.Native.Nat.{ℕ, zero, suc, ◌-◌, ◌<◌}
use native.Mathlib.Omega.{arith}
use lib.IntN.{ℤ, pos, negsuc, ◌-ℤ◌}
use mir.Syntax.{w16}
use mir.Val.{to_z}
use mir.Facts.{to_z_pos, to_z-neg}
use borrow.Author.Tests.{lt-ltb, le-ltb}
use Rattle.group_entries.specs.Decoded.{signed16}
use Rattle.group_entries.proofs.plain.signed_u16.Goals as goal

minus_one : (n : ℕ) → negsuc 0 -ℤ pos n ≡ negsuc n
minus_one zero = refl
minus_one (suc n) = ap negsuc (omega arith)

-- -1 less the number in the bits
under-zero : (n : ℕ) → n < 32768 → negsuc 0 -ℤ to_z w16 n ≡ negsuc n
under-zero n h = ap (λ (z : ℤ). negsuc 0 -ℤ z) (to_z_pos w16 h) ∙ minus_one n

pub overflow_sub-result-else-x-lt32768 : goal.overflow_sub-result-else-x-lt32768
overflow_sub-result-else-x-lt32768 c = rw (under-zero (65535 - c.args.x) (omega arith)) (record { sfits = omega arith })

pub returns-then-x-lt32768 : goal.returns-then-x-lt32768
unfolding signed16
returns-then-x-lt32768 c = simp (lt-ltb _ _ c.if-x-lt32768.true)

pub returns-else-x-lt32768 : goal.returns-else-x-lt32768
unfolding signed16
returns-else-x-lt32768 c = simp (le-ltb _ _ c.if-x-lt32768.false) (let k = 65535 - c.args.x in rw (under-zero k (omega arith)) (to_z-neg w16 k (omega arith)))
