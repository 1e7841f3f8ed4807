-- Bounds of the widths of a payload's fields.
use mathlib.Core.Bool.{Bool, true, false}
use Prim.Native.Nat.{ℕ, ◌*◌, ◌/◌, ◌%◌, ◌≤◌, ◌<◌}
use native.Mathlib.Nat.{mul-le-mul}
use native.Mathlib.Omega.{arith}
use mathlib.Core.List.{List}
use lib.Dec.{eqb}
use Rattle.base_fields.specs.Answer.{choose}
use Rattle.base_fields.specs.Number.{field_bound}
use Rattle.table_csgp_head.specs.Csgp.{width_of, flags, index_width_of, count_width_of, length_width_of}

abbrev Between : ℕ → ℕ → ℕ → Type 0
Between low high x = (low ≤ x) × (x ≤ high)

either : (low high : ℕ) (b : Bool) {x y : ℕ} → Between low high x → Between low high y → Between low high (choose b x y)
either low high true t f = t
either low high false t f = f

pub width_bounds : (code : ℕ) → (4 ≤ width_of code) × (width_of code ≤ 32)
unfolding width_of
width_bounds code =
    either 4 32 (eqb code 0) (omega arith) (either 4 32 (eqb code 1) (omega arith) (either 4 32 (eqb code 2) (omega arith) (omega arith)))

-- n fields, n a u32, of at most 64 bits
pub fields_small : (n w : ℕ) → n < field_bound → w ≤ 64 → n * w ≤ field_bound * 64
fields_small n w h l = let m : n ≤ field_bound = omega arith in mul-le-mul {n₁ = n} {m₁ = w} {n₂ = field_bound} {m₂ = 64} m l

pub record Widths (s : List ℕ) : Type 0 where
  pub index : (4 ≤ index_width_of s) × (index_width_of s ≤ 32)
  pub count : (4 ≤ count_width_of s) × (count_width_of s ≤ 32)
  pub length : (4 ≤ length_width_of s) × (length_width_of s ≤ 32)

pub widths : (s : List ℕ) → Widths s
widths s =
    record {
      index = width_bounds (flags s % 4);
      count = width_bounds (flags s / 4 % 4);
      length = width_bounds (flags s / 16 % 4);
    }
