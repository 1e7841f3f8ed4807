use mathlib.Core.Path.{refl}
use Prim.Native.Nat.{◌+◌}
use native.Mathlib.Omega.{arith}
use Rattle.table_csgp_head.proofs.Widths.{fields_small}
use Rattle.table_csgp_head.proofs.head.head_of.Goals as goal

pub overflow_mul-result : goal.overflow_mul-result
overflow_mul-result c =
    omega (arith, fields_small c.args.front.count (c.field_width-length_width.result + c.field_width-count_width.result) (omega arith) (omega arith))

pub overflow_add-result-2 : goal.overflow_add-result-2
overflow_add-result-2 c =
    omega (arith, fields_small c.args.front.count (c.field_width-length_width.result + c.field_width-count_width.result) (omega arith) (omega arith))

pub returns : goal.returns
returns c =
    let f = c.requires in
    let flags = c.read_u8-flags.ensures.0 in
    record {
      grouping_type_of = f.grouping_type_of;
      parameter = f.parameter;
      count = f.count;
      index_bits = rw (← flags) c.field_width.ensures.0;
      count_bits = rw (← flags) c.field_width-count_width.ensures.0;
      length_bits = rw (← flags) c.field_width-length_width.ensures.0;
      marked = rw (← flags) c.has_marks.ensures;
      pairs_place = rw f.first refl;
      indices_place = rw (← f.count, ← f.first, ← flags, ← c.field_width-length_width.ensures.0, ← c.field_width-count_width.ensures.0) refl;
      short = f.there.short;
      whole = f.there.whole;
    }
