-- Rows counted one after the other: `rest` are those to come, `all` those that remain in the whole.
use mathlib.Core.Path.{◌≡◌}
use Prim.Native.Nat.{ℕ, ◌+◌, ◌<◌, ◌≤◌, max}
use native.Mathlib.Omega.{arith}
use mathlib.Core.List.{List, [], ◌∷◌}
use lib.ListN.{length}
use Rattle.base_fields.specs.Number.{field_bound}
use Rattle.table_rows.specs.Row.{Row}
use Rattle.table_writing.specs.Remaining.{largest, largest_count, largest_index, largest_low}
use Rattle.table_writers.specs.Runs.{row}
use Rattle.table_writers.specs.Tally.{Tallies, counted}
use Rattle.table_writers.specs.declared.tally.Tally.{Tally}

pub record Tallying (all rest : List Row) (t : Tally) : Type 0 where
  pub rows : t.rows + length rest ≡ length all
  pub count : max t.count (largest_count rest) ≡ largest_count all
  pub index : max t.index (largest_index rest) ≡ largest_index all
  pub low : max t.low (largest_low rest) ≡ largest_low all
  pub small : t.count < field_bound

pub tallying-first : (all : List Row) → Tallying all all (record { rows = 0; count = 0; index = 0; low = 0 })
tallying-first all = record { rows = omega arith; count = omega arith; index = omega arith; low = omega arith; small = omega arith }

module _ {all rest : List Row} {t : Tally} (o : Tallying all rest t) where
  pub tallying-step : (n x : ℕ) {later : List Row} → rest ≡ row n x ∷ later → n < field_bound → Tallying all later (counted t n x)
  unfolding largest
  tallying-step n x {later} e small =
      let a = rw e at o.rows in
      let b = rw e at o.count in
      let d = rw e at o.index in
      let f = rw e at o.low in
      record { rows = omega arith; count = omega arith; index = omega arith; low = omega arith; small = omega (arith, o.small) }

  pub tallying-end : rest ≡ [] → Tallies all t
  unfolding largest
  tallying-end e =
      let a = rw e at o.rows in
      let b = rw e at o.count in
      let d = rw e at o.index in
      let f = rw e at o.low in
      record { rows = omega arith; count = omega arith; index = omega arith; low = omega arith; small = o.small }

  pub tallying-over : field_bound ≤ largest_count rest → field_bound ≤ largest_count all
  tallying-over h = omega (arith, o.count)
