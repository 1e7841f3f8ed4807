-- The mark's place in its width is at most bit 31, so the field is a number of 32 bits.
use mathlib.Core.Path.{◌≡◌}
use Prim.Native.Nat.{◌-◌, ◌*◌, ◌/◌, ◌%◌, ◌^◌, ◌≤◌}
use native.Mathlib.Omega.{arith}
use lib.Pow.{pow_mono}
use Rattle.base_fields.specs.Number.{field_bound}
use Rattle.base_ids.specs.Limits.{local_mark}
use Rattle.table_patterns.proofs.Marks.{half-divisor}
use Rattle.table_writing.proofs.Marks.{at_most}
use Rattle.table_writers.proofs.csgp.index_field.Goals as goal
use Rattle.table_writers.proofs.csgp.index_field.Goals.{Start}

module _ (c : Start) where
  place : (1 * 2 ^ (4 * c.args.m - 1)) % field_bound ≡ 2 ^ (4 * c.args.m - 1)
  place = half-divisor (4 * c.args.m) (omega (arith, c.requires.1))

  front : c.args.index / local_mark * 2 ^ (4 * c.args.m - 1) ≤ local_mark
  front =
      let half = 2 ^ (4 * c.args.m - 1) in
      let small : half ≤ local_mark = pow_mono {i = 4 * c.args.m - 1} {j = 31} (omega (arith, c.requires.1)) in
      omega (arith, at_most (c.args.index / local_mark) half (omega (arith, c.ranges.index)))

pub overflow_mul-result : goal.overflow_mul-result
overflow_mul-result c = rw (place (goal.at.overflow_mul-result c).Start) (omega (arith, front (goal.at.overflow_mul-result c).Start))

pub overflow_add-result : goal.overflow_add-result
overflow_add-result c = rw (place (goal.at.overflow_add-result c).Start) (omega (arith, front (goal.at.overflow_add-result c).Start))

pub returns-then-marks : goal.returns-then-marks
returns-then-marks c = rw (place (goal.at.returns-then-marks c).Start, c.if-marks.true)
