use Rattle.std.proofs.Common.{ℕ, ◌*◌, ◌%◌, ◌≤◌}
use native.Mathlib.Nat.{mul-le-mul_right}
use native.Mathlib.Omega.{arith}
use Rattle.cue_words.proofs.rest.Rest.number.Goals as goal

-- what a group adds
group-small : (byte unit : ℕ) → byte % 128 * unit ≤ 127 * unit
group-small byte unit = mul-le-mul_right unit (omega arith)

pub overflow_mul-value : goal.overflow_mul-value
overflow_mul-value c = omega (arith, group-small c.in_ok-byte.byte c.loop-unit.unit)
