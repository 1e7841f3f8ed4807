-- Laws of one record of a run: how many there are, which row each is, and the rows from it on.
use mathlib.Core.Path.{◌≡◌, refl, ap, ◌∙◌}
use Prim.Native.Nat.{ℕ, zero, suc, ◌+◌, ◌-◌, ◌*◌, ◌<◌, ◌≤◌}
use native.Mathlib.Numerals.{add-one}
use native.Mathlib.Omega.{arith}
use mathlib.Core.List.{List, [], ◌∷◌}
use lib.ListN.{length, get_or, drop}
use lib.Seq.{drop-cons, drop-length}
use borrow.Author.Tests.{lt-ltb, le-ltb}
use Rattle.base_fields.specs.Number.{field_bound}
use Rattle.base_ids.specs.Limits.{count_limit}
use Rattle.table_rows.specs.Row.{Row, record_numbers, rows_of, records_in, no_row, covered, index_at}

-- as many rows as records
pub rows-length : (l : List ℕ) → length (rows_of l) ≡ records_in l
unfolding rows_of
rows-length [] = refl
rows-length (c ∷ []) = refl
rows-length (c ∷ i ∷ l) = omega (arith, rows-length l)

-- the numbers of record k
pub row_at : (l : List ℕ) (k : ℕ) → k < records_in l → get_or (rows_of l) k no_row ≡ record { count = get_or l (record_numbers * k) 0; index = get_or l (record_numbers * k + 1) 0 }
unfolding rows_of
row_at [] k h = absurd (omega arith)
row_at (c ∷ []) k h = absurd (omega arith)
row_at (c ∷ i ∷ l) zero h = refl
row_at (c ∷ i ∷ l) (suc k) h =
    let e : suc (suc (2 * k)) ≡ 2 * suc k = omega arith in
    let f : suc (suc (2 * k + 1)) ≡ 2 * suc k + 1 = omega arith in
    let m = c ∷ i ∷ l in
    row_at l k (omega arith) ∙ ap (λ n. record { count = get_or m n 0; index = get_or m (suc (suc (2 * k + 1))) 0 }) e
    ∙ ap (λ n. record { count = get_or m (2 * suc k) 0; index = get_or m n 0 }) f

-- numbers of 32 bits make counts within the limit
pub count_small : (l : List ℕ) → ((k : ℕ) → get_or l k 0 < field_bound) → (k : ℕ) → (get_or (rows_of l) k no_row).count ≤ count_limit
unfolding rows_of
count_small [] h k = omega arith
count_small (c ∷ []) h k = omega arith
count_small (c ∷ i ∷ l) h zero = omega (arith, h 0)
count_small (c ∷ i ∷ l) h (suc k) = count_small l (λ j. h (suc (suc j))) k

-- the rows from row k on: row k and those behind it
module _ (rs : List Row) (k : ℕ) where
  module _ (h : k < length rs) where
    pub from_row : drop k rs ≡ get_or rs k no_row ∷ drop (k + 1) rs
    from_row = rw (drop-cons rs k no_row h, add-one k)

    pub index-here : (n : ℕ) → n < (get_or rs k no_row).count → index_at (drop k rs) n ≡ (get_or rs k no_row).index
    unfolding index_at
    index-here n b = rw from_row (simp (lt-ltb _ _ b))

    pub index-behind : (n : ℕ) → (get_or rs k no_row).count ≤ n → index_at (drop k rs) n ≡ index_at (drop (k + 1) rs) (n - (get_or rs k no_row).count)
    unfolding index_at
    index-behind n b = rw from_row (simp (le-ltb _ _ b))

    pub covered-from : covered (drop k rs) ≡ (get_or rs k no_row).count + covered (drop (k + 1) rs)
    unfolding covered
    covered-from = rw from_row refl

  module _ (h : k ≡ length rs) where
    pub index-past : (n : ℕ) → index_at (drop k rs) n ≡ 0
    unfolding index_at
    index-past n = rw (h, drop-length rs) refl

    pub covered-past : covered (drop k rs) ≡ 0
    unfolding covered
    covered-past = rw (h, drop-length rs) refl
