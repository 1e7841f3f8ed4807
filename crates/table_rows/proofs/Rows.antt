-- Laws of the records in a run of numbers: of numbers that were rows, and of rows put over records.
use mathlib.Core.Path.{◌≡◌, refl, sym, ◌∙◌}
use Prim.Native.Nat.{ℕ, zero, suc, ◌+◌, ◌-◌, ◌*◌, ◌<◌, ◌≤◌}
use native.Mathlib.Omega.{arith}
use mathlib.Core.List.{List, [], ◌∷◌, ◌++◌, append-nil, append_assoc}
use lib.ListN.{length, get_or, take, drop, length-append, length-drop, take-append-drop}
use lib.Seq.{take_at, drop_at, drop-drop, take-nil, drop-nil, get_or-append-add, get_or-drop, length-take-le, length-sets, sets-eq}
use Rattle.table_rows.specs.Row.{Row, no_row, record_numbers, rows_of, flat, records_in, put_row}

-- a run of fewer numbers than a record has is none
pub rows_none : (l : List ℕ) → length l < record_numbers → rows_of l ≡ []
unfolding rows_of
rows_none [] h = refl
rows_none (c ∷ []) h = refl
rows_none (c ∷ i ∷ l) h = absurd (omega arith)

-- the first n records of a run, and those behind them
pub rows_take : (n : ℕ) (l : List ℕ) → rows_of (take (record_numbers * n) l) ≡ take n (rows_of l)
unfolding rows_of
rows_take zero l = refl
rows_take (suc n) [] = rw (take-nil (record_numbers * suc n))
rows_take (suc n) (c ∷ []) = let e : record_numbers * suc n ≡ suc (suc (record_numbers * n)) = omega arith in rw e refl
rows_take (suc n) (c ∷ i ∷ l) = let e : record_numbers * suc n ≡ suc (suc (record_numbers * n)) = omega arith in rw (e, rows_take n l)

pub rows_drop : (n : ℕ) (l : List ℕ) → rows_of (drop (record_numbers * n) l) ≡ drop n (rows_of l)
unfolding rows_of
rows_drop zero l = refl
rows_drop (suc n) [] = rw (drop-nil (record_numbers * suc n))
rows_drop (suc n) (c ∷ []) = let e : record_numbers * suc n ≡ suc (suc (record_numbers * n)) = omega arith in rw e refl
rows_drop (suc n) (c ∷ i ∷ l) = let e : record_numbers * suc n ≡ suc (suc (record_numbers * n)) = omega arith in rw e (rows_drop n l)

pub flat-length : (rs : List Row) → length (flat rs) ≡ record_numbers * length rs
unfolding flat
flat-length [] = refl
flat-length (r ∷ rs) = omega (arith, flat-length rs)

pub flat_append : (rs ts : List Row) → flat (rs ++ ts) ≡ flat rs ++ flat ts
unfolding flat
flat_append [] ts = refl
flat_append (r ∷ rs) ts = rw (flat_append rs ts)

-- the records of rows and then other numbers
pub rows_of_append : (rs : List Row) (t : List ℕ) → rows_of (flat rs ++ t) ≡ rs ++ rows_of t
unfolding rows_of flat
rows_of_append [] t = refl
rows_of_append (r ∷ rs) t = rw (rows_of_append rs t)

-- rows and fewer numbers more than a record has
pub rows_of-flat : (rs : List Row) (t : List ℕ) → length t < record_numbers → rows_of (flat rs ++ t) ≡ rs
rows_of-flat rs t h = rows_of_append rs t ∙ rw (rows_none t h) (append-nil rs)

pub put-length : (k count index : ℕ) (l : List ℕ) → length (put_row k count index l) ≡ length l
put-length k count index l = length-sets l (record_numbers * k) (flat (record { count = count; index = index } ∷ []))

-- a row put over the numbers w of record k, behind the numbers p of the records before it
pub put-over : (p w t : List ℕ) (k : ℕ) (r : Row) → length p ≡ record_numbers * k → length w ≡ record_numbers →
    put_row k r.count r.index (p ++ (w ++ t)) ≡ p ++ (flat (r ∷ []) ++ t)
put-over p w t k r e f =
    let one = flat-length (r ∷ []) in
    let room : record_numbers * k + length (flat (r ∷ [])) ≤ length (p ++ (w ++ t)) = simp (length-append, e, f, one) (omega arith) in
    let behind : length (p ++ w) ≡ record_numbers * k + length (flat (r ∷ [])) = simp (length-append, e, f, one) in
    sets-eq (flat (r ∷ [])) (p ++ (w ++ t)) (record_numbers * k) room
    ∙ rw (take_at p (w ++ t) (record_numbers * k) e, ← append_assoc p w t, drop_at (p ++ w) t _ behind) (append_assoc p (flat (r ∷ [])) t)

-- a run of numbers whose first records are the rows
abbrev pub front : List Row → List ℕ → List ℕ
front rs l = flat rs ++ drop (record_numbers * length rs) l

pub front_length : (rs : List Row) (l : List ℕ) → record_numbers * length rs ≤ length l → length (front rs l) ≡ length l
front_length rs l h = simp (length-append, flat-length, length-drop) (omega arith)

-- then its other records follow
pub front-rows : (rs : List Row) (l : List ℕ) → rows_of (front rs l) ≡ rs ++ drop (length rs) (rows_of l)
front-rows rs l = rows_of_append rs _ ∙ rw (rows_drop (length rs) l)

-- a record behind them is as it was
pub front-behind : (rs : List Row) (l : List ℕ) (k : ℕ) → length rs ≤ k → get_or (rows_of (front rs l)) k no_row ≡ get_or (rows_of l) k no_row
front-behind rs l k h =
    let n = length rs in
    let e : n + (k - n) ≡ k = omega arith in
    rw (front-rows rs l, ← e) (get_or-append-add rs (drop n (rows_of l)) (k - n) no_row ∙ get_or-drop n (rows_of l) (k - n) no_row)

-- the numbers of a record, and those behind it
pub record_parts : (n : ℕ) (l : List ℕ) → drop n l ≡ take record_numbers (drop n l) ++ drop (n + record_numbers) l
record_parts n l = sym (take-append-drop record_numbers (drop n l)) ∙ rw (drop-drop record_numbers n l) refl

-- one row more, put behind them
pub front-put : (rs : List Row) (r : Row) (l : List ℕ) → length rs < records_in l → put_row (length rs) r.count r.index (front rs l) ≡ front (rs ++ (r ∷ [])) l
front-put rs r l h =
    let n = record_numbers * length rs in
    let w = take record_numbers (drop n l) in
    let some : record_numbers ≤ length (drop n l) = simp length-drop (omega arith) in
    let m : record_numbers * length (rs ++ (r ∷ [])) ≡ n + record_numbers = simp length-append (omega arith) in
    rw (record_parts n l, m, flat_append rs (r ∷ []), append_assoc (flat rs) (flat (r ∷ [])) (drop (n + record_numbers) l))
    (put-over (flat rs) w (drop (n + record_numbers) l) (length rs) r (flat-length rs) (length-take-le record_numbers (drop n l) some))
