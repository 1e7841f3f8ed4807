use mathlib.Core.Path.{◌≡◌, ◌∙◌}
use Prim.Native.Nat.{◌+◌, ◌-◌, ◌%◌}
use native.Mathlib.Omega.{arith}
use borrow.Author.Tests.{lt-ltb, le-ltb}
use lib.Dec.{ltb}
use Rattle.base_fields.specs.Answer.{refused, choose}
use Rattle.table_patterns.specs.Place.{bit_count}
use Rattle.table_csgp_head.specs.Csgp.{stream_place, pattern_count_of, length_width_of, count_width_of, read_pairs}
use Rattle.table_csgp_head.proofs.Widths.{widths}
use Rattle.table_csgp_head.proofs.Reading.{pairs-cut}
use Rattle.table_csgp_head.proofs.head.check_pairs.Goals as goal
use Rattle.table_csgp_head.proofs.head.check_pairs.Goals.{Else-head-bits}

-- where the table does not fit
cut : (c : Else-head-bits) → (let s = c.args.s.now in read_pairs (pattern_count_of s) s (stream_place s) ≡ refused (choose (ltb ((bit_count s - stream_place s) % (length_width_of s + count_width_of s)) (length_width_of s)) 24 25))
cut c =
    let s = c.args.s.now in
    let f = c.requires in
    pairs-cut s (pattern_count_of s) (stream_place s) (omega (arith, widths s)) (omega (arith, f.whole)) (omega (arith, f.indices_place, c.if-head-bits.false))

pub overflow_add-left : goal.overflow_add-left
overflow_add-left c = omega (arith, widths c.args.s.now)

pub nonzero_rem-left : goal.nonzero_rem-left
nonzero_rem-left c = omega (arith, widths c.args.s.now)

pub returns-then-left-head : goal.returns-then-left-head
returns-then-left-head c =
    let f = c.requires in
    let h = rw (f.pairs_place, f.length_bits, f.count_bits) at c.if-left-head.true in
    cut (goal.at.returns-then-left-head c).Else-head-bits ∙ simp (lt-ltb _ _ h)

pub returns : goal.returns
returns c =
    let f = c.requires in
    let h = rw (f.pairs_place, f.length_bits, f.count_bits) at c.if-left-head.false in
    cut (goal.at.returns c).Else-head-bits ∙ simp (le-ltb _ _ h)
