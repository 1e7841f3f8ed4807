-- The bits that are left hold a whole number of indices, and the next does not fit.
use Prim.Native.Nat.{ℕ, suc, ◌+◌, ◌-◌, ◌*◌, ◌/◌, ◌<◌, ◌≤◌}
use native.Mathlib.Nat.{mul_comm, mul-suc, div-mul-le_self, div-lt_iff_lt-mul, div-add-mod', mod-lt}
use native.Mathlib.Omega.{arith}
use Rattle.table_patterns.specs.Place.{bit_count}
use Rattle.table_csgp_head.specs.Csgp.{index_width_of}
use Rattle.table_csgp_head.proofs.Widths.{widths, fields_small}
use Rattle.table_csgp_head.proofs.indices.indices_there.Goals as goal
use Rattle.table_csgp_head.proofs.indices.indices_there.Goals.{Start}

whole-fits : (w bits q : ℕ) → q ≤ bits → q + w * ((bits - q) / w) ≤ bits
whole-fits w bits q h = omega (arith, div-mul-le_self (bits - q) w, mul_comm w ((bits - q) / w))

next-cut : (w bits q : ℕ) → 0 < w → q ≤ bits → bits < q + w * suc ((bits - q) / w)
next-cut w bits q p h = omega (arith, div-add-mod' (bits - q) w, mod-lt (bits - q) p, mul-suc w ((bits - q) / w), mul_comm w ((bits - q) / w))

whole-few : (w bits q n : ℕ) → 0 < w → bits - q < w * n → (bits - q) / w < n
whole-few w bits q n p h = (div-lt_iff_lt-mul p).1 (let e : bits - q < n * w = omega (arith, mul_comm w n) in e)

module _ (c : Start) where
  abbrev width : ℕ
  width = c.args.head.index_width

  abbrev bits : ℕ
  bits = bit_count c.args.s.now

  wide : (0 < width) × (width ≤ 64)
  wide = let w = (widths c.args.s.now).index in rw c.requires.0.index_bits (omega arith)

  few : bits - c.args.place < width * c.args.length → (bits - c.args.place) / width < c.args.length
  few h = whole-few width bits c.args.place c.args.length wide.0 h

pub overflow_mul-width : goal.overflow_mul-width
overflow_mul-width c =
    omega (arith, fields_small c.args.length (width (goal.at.overflow_mul-width c).Start) (omega arith) (wide (goal.at.overflow_mul-width c).Start).1)

pub nonzero_div-result : goal.nonzero_div-result
nonzero_div-result c = (wide (goal.at.nonzero_div-result c).Start).0

pub overflow_cast-result : goal.overflow_cast-result
overflow_cast-result c = omega (arith, few (goal.at.overflow_cast-result c).Start c.if-left-width.true)

pub returns-then-left-width : goal.returns-then-left-width
returns-then-left-width c =
    let q = c.args.place in
    let w = c.requires.0.index_bits in
    let s = c.args.s.now in
    record {
      few = omega (arith, few (goal.at.returns-then-left-width c).Start c.if-left-width.true);
      inside = rw w (whole-fits (index_width_of s) (bits (goal.at.returns-then-left-width c).Start) q c.requires.1);
      cut = λ _. rw w (next-cut (index_width_of s) (bits (goal.at.returns-then-left-width c).Start) q (omega (arith, (widths s).index)) c.requires.1);
    }

pub returns : goal.returns
returns c =
    let fits = rw c.requires.0.index_bits at c.if-left-width.false in
    record { few = omega arith; inside = omega (arith, c.requires.1); cut = λ l. absurd (omega arith) }
