-- The rows that remain: the joined rows, each of whose counts fits its field; or 28.
use mathlib.Core.Path.{◌≡◌, refl}
use mathlib.Core.Bool.{Bool, true, false}
use Prim.Native.Nat.{ℕ, ◌≤◌, ◌<◌}
use native.Mathlib.Omega.{arith}
use borrow.Author.Tests.{leb-true, leb-false}
use mathlib.Core.List.{List, [], ◌∷◌}
use lib.Dec.{leb, eqb}
use Rattle.base_fields.specs.Answer.{given, refused, refuse_if}
use Rattle.base_fields.specs.Number.{field_bound}
use Rattle.base_fields.proofs.Answers.{given-past, given_inj}
use Rattle.table_rows.specs.Row.{Row, covered, index_at}
use Rattle.table_rows.specs.Joined.{joined_to, joined}
use Rattle.table_rows.proofs.Choice.{either}
use Rattle.table_rows.proofs.Joined.{joined-index_at, joined-covered}
use Rattle.table_writing.specs.Remaining.{largest, largest_count, largest_index, remaining}

-- joined rows have no other indices
to-index : (r : Row) (qs : List Row) (m : ℕ) → r.index ≤ m → largest_index qs ≤ m → largest_index (joined_to r qs) ≤ m
unfolding joined_to largest
to-index r [] m h l = omega arith
to-index r (q ∷ qs) m h l = either (λ p. largest_index p ≤ m) (eqb r.index q.index) (λ t. omega arith) (λ f. omega arith)

pub joined-index : (rs : List Row) → largest_index (joined rs) ≤ largest_index rs
unfolding joined largest
joined-index [] = omega arith
joined-index (r ∷ rs) =
    let ih = joined-index rs in
    let m = largest_index (r ∷ rs) in
    either (λ l. largest_index l ≤ m) (eqb r.count 0) (λ t. omega arith) (λ f. to-index r (joined rs) m (omega arith) (omega arith))

-- remaining rows are the joined rows, each of whose counts fits its field
pub remaining-given : (rows : List Row) {rs : List Row} → remaining rows ≡ given rs → (joined rows ≡ rs) × (largest_count rs < field_bound)
unfolding remaining
remaining-given rows {rs} e =
    let past = given-past (leb field_bound (largest_count (joined rows))) 28 (given (joined rows)) e in
    let same : joined rows ≡ rs = given_inj past.1 in
    (same, rw same at (leb-false field_bound (largest_count (joined rows)) past.0))

-- they tell the same index of every sample as the rows given, 0 past the end, and cover as many samples
pub remaining-index : (rows : List Row) {rs : List Row} → remaining rows ≡ given rs → (k : ℕ) → index_at rs k ≡ index_at rows k
remaining-index rows e k = rw (← (remaining-given rows e).0) (joined-index_at rows k)

pub remaining-covered : (rows : List Row) {rs : List Row} → remaining rows ≡ given rs → covered rs ≡ covered rows
remaining-covered rows e = rw (← (remaining-given rows e).0) (joined-covered rows)

-- 28
pub over-told : (rows : List Row) {n : ℕ} → remaining rows ≡ refused n → (n ≡ 28) × (field_bound ≤ largest_count (joined rows))
unfolding remaining
over-told rows {n} e = by (leb field_bound (largest_count (joined rows))) refl e
  where
    by : (t : Bool) → leb field_bound (largest_count (joined rows)) ≡ t → refuse_if t 28 (given (joined rows)) ≡ refused n →
        (n ≡ 28) × (field_bound ≤ largest_count (joined rows))
    by true t e = (cc, leb-true _ _ t)
    by false t e = let z : ◌≡◌ {A = ℕ} 0 1 = cc in absurd (omega arith)
