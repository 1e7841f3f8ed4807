-- The divisor is the value of the highest bit, so the quotient is the mark and the rest the low bits.
use mathlib.Core.Path.{◌≡◌, refl}
use Prim.Native.Nat.{◌+◌, ◌-◌, ◌*◌, ◌/◌, ◌%◌, ◌^◌, ◌<◌}
use native.Mathlib.Omega.{arith}
use lib.Pow.{pow_pos}
use Rattle.base_fields.specs.Number.{field_bound}
use Rattle.base_ids.specs.Limits.{local_mark}
use Rattle.table_patterns.proofs.Marks.{half-divisor, marked-fits}
use Rattle.table_patterns.proofs.index_value.Goals as goal
use Rattle.table_patterns.proofs.index_value.Goals.{Start}

module _ (c : Start) where
  divides : (1 * 2 ^ (c.args.pattern.width - 1)) % field_bound ≡ 2 ^ (c.args.pattern.width - 1)
  divides = half-divisor c.args.pattern.width c.requires.1

  fits : (let half = 2 ^ (c.args.pattern.width - 1) in c.args.bits / half * local_mark + c.args.bits % half < field_bound)
  fits = marked-fits c.args.pattern.width c.args.bits c.requires.0 c.requires.1 c.requires.2

pub nonzero_div-result : goal.nonzero_div-result
nonzero_div-result c = rw (divides (goal.at.nonzero_div-result c).Start) (pow_pos (c.args.pattern.width - 1))

pub overflow_mul-result : goal.overflow_mul-result
overflow_mul-result c = rw (divides (goal.at.overflow_mul-result c).Start) (omega (arith, fits (goal.at.overflow_mul-result c).Start))

pub nonzero_rem-result : goal.nonzero_rem-result
nonzero_rem-result c = rw (divides (goal.at.nonzero_rem-result c).Start) (pow_pos (c.args.pattern.width - 1))

pub overflow_add-result : goal.overflow_add-result
overflow_add-result c = rw (divides (goal.at.overflow_add-result c).Start) (omega (arith, fits (goal.at.overflow_add-result c).Start))

pub returns-then-pattern : goal.returns-then-pattern
returns-then-pattern c = rw (divides (goal.at.returns-then-pattern c).Start, c.if-pattern.true) (refl, fits (goal.at.returns-then-pattern c).Start)
