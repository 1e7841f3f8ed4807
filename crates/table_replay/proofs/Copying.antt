-- Rows written in front of a run of numbers, and copied behind those that stand there.
use mathlib.Core.Path.{◌≡◌, refl, ap, sym, ◌∙◌}
use mathlib.Core.Logic.{◌⊎◌, ⊎_elim}
use mathlib.Core.Bool.{Bool, true, false}
use Prim.Native.Nat.{ℕ, zero, suc, ◌+◌, ◌-◌, ◌*◌, ◌≤◌, ◌<◌}
use native.Mathlib.Nat.{zero-add, zero-mul, suc-mul}
use native.Mathlib.Omega.{arith}
use mathlib.Core.List.{List, [], ◌∷◌, ◌++◌, reverse, reverse-cons, reverse-append, reverse-reverse, append_assoc}
use lib.Dec.{eqb}
use lib.ListN.{length, take, drop, get_or, length-append, length-drop, length-reverse}
use lib.Seq.{length-take-le, get_or_at}
use Rattle.base_fields.specs.Answer.{choose}
use Rattle.table_rows.specs.Row.{Row, no_row, record_numbers, rows_of, flat, put_row}
use Rattle.table_rows.proofs.Rows.{flat-length, flat_append, rows_of_append, record_parts, put-over}
use Rattle.table_replay.proofs.Repeating.{stacked}
use Rattle.table_replay.specs.Records.{copied, Written}
use Rattle.table_replay.proofs.Entering.{below}

flat-last : (r : Row) (rs : List Row) → flat (reverse (r ∷ rs)) ≡ flat (reverse rs) ++ flat (r ∷ [])
flat-last r rs = rw (reverse-cons, flat_append) refl

pub front_length : (rows : List Row) → length (flat (reverse rows)) ≡ record_numbers * length rows
front_length rows = flat-length (reverse rows) ∙ rw (length-reverse rows) refl

module _ (e l : List ℕ) where
  written-front : (rows : List Row) → Written e l rows → l ≡ flat (reverse rows) ++ drop (record_numbers * length rows) e
  written-front rows w = w ∙ rw (length-reverse rows) refl

  -- a record behind the rows that a run leaves below the last one
  abbrev pub Place : List Row → Type 0
  Place rows = (w : List ℕ) × (length w ≡ record_numbers) × (l ≡ flat (reverse rows) ++ (w ++ drop (record_numbers * suc (length rows)) e))

  place_new : (rows : List Row) → Written e l rows → record_numbers * suc (length rows) ≤ length e → Place rows
  place_new rows w h =
      let m = record_numbers * length rows in
      let n : record_numbers * suc (length rows) ≡ m + record_numbers = omega arith in
      let some : record_numbers ≤ length (drop m e) = simp length-drop (omega arith) in
      let parts = ap (λ (d : List ℕ). flat (reverse rows) ++ d) (record_parts m e) in
      (take record_numbers (drop m e), length-take-le record_numbers (drop m e) some, written-front rows w ∙ rw n parts)

  place-last : (r : Row) (rs : List Row) → Written e l (r ∷ rs) → Place rs
  place-last r rs w = (flat (r ∷ []), flat-length (r ∷ []), written-front (r ∷ rs) w ∙ rw (flat-last r rs, append_assoc) refl)

  pub place-below : (rows : List Row) (i : ℕ) → Written e l rows → record_numbers * suc (length (below rows i)) ≤ length e → Place (below rows i)
  place-below [] i w h = place_new [] w h
  place-below (r ∷ rs) i w h = by (eqb r.index i) h
    where
      by : (b : Bool) → record_numbers * suc (length (choose b rs (r ∷ rs))) ≤ length e → Place (choose b rs (r ∷ rs))
      by true h = place-last r rs w
      by false h = place_new (r ∷ rs) w h

  pub put : (rows : List Row) (x : Row) → Place rows → Written e (put_row (length rows) x.count x.index l) (x ∷ rows)
  put rows x (v, n, w) =
      let f = flat (reverse rows) in
      let d = drop (record_numbers * suc (length rows)) e in
      ap (λ (k : List ℕ). put_row (length rows) x.count x.index k) w
      ∙ put-over f v d (length rows) x (front_length rows) n
      ∙ rw (length-reverse (x ∷ rows), flat-last x rows) (sym (append_assoc f (flat (x ∷ [])) d))

-- one turn of the loop that copies, and its end
pub copied-one : (i j end : ℕ) (l : List ℕ) {m : List ℕ} → 0 < i → i ≤ j → j < end →
    m ≡ put_row (j - 1) (get_or (rows_of l) (i - 1) no_row).count (get_or (rows_of l) (i - 1) no_row).index l →
    copied (end - j) (i - 1) (j - 1) l ≡ copied (end - (j + 1)) (i + 1 - 1) (j + 1 - 1) m
unfolding copied
copied-one i j end l p q h e =
    let n : end - j ≡ suc (end - (j + 1)) = omega arith in
    let a : i + 1 - 1 ≡ suc (i - 1) = omega arith in
    let b : j + 1 - 1 ≡ suc (j - 1) = omega arith in
    rw (n, a, b, e) refl

pub copied-end : (n i j : ℕ) (l : List ℕ) → n ≡ 0 → copied n i j l ≡ l
unfolding copied
copied-end n i j l e = rw e refl

copied-add : (m n i j : ℕ) (l : List ℕ) → copied (m + n) i j l ≡ copied n (m + i) (m + j) (copied m i j l)
unfolding copied
copied-add zero n i j l = rw (zero-add, zero-add, zero-add)
copied-add (suc m) n i j l =
    let a : suc m + n ≡ suc (m + n) = omega arith in
    let b : suc m + i ≡ m + suc i = omega arith in
    let c : suc m + j ≡ m + suc j = omega arith in
    rw (a, b, c) (copied-add m n (suc i) (suc j) _)

-- a row among those in front
front-row : (above : List Row) (x : Row) (others : List Row) (rest : List ℕ) → get_or (rows_of (flat (reverse (above ++ x ∷ others)) ++ rest)) (length others) no_row ≡ x
front-row above x others rest =
    let parts : reverse (above ++ x ∷ others) ++ rows_of rest ≡ reverse others ++ x ∷ (reverse above ++ rows_of rest) = rw (reverse-append, reverse-cons) (simp append_assoc) in
    rw (rows_of_append, parts) (get_or_at (reverse others) x _ no_row (length others) (length-reverse others))

module _ (e : List ℕ) where
  -- a row copied behind the others
  copy-one : (l : List ℕ) (rows above : List Row) (x : Row) (others : List Row) → rows ≡ above ++ x ∷ others → Place e l rows → record_numbers * suc (suc (length rows)) ≤ length e →
      Place e (put_row (length rows) (get_or (rows_of l) (length others) no_row).count (get_or (rows_of l) (length others) no_row).index l) (x ∷ rows)
  copy-one l rows above x others q p h =
      let rest = p.0 ++ drop (record_numbers * suc (length rows)) e in
      let w : l ≡ flat (reverse (above ++ x ∷ others)) ++ rest = p.2 ∙ ap (λ (rs : List Row). flat (reverse rs) ++ rest) q in
      let r : get_or (rows_of l) (length others) no_row ≡ x = ap (λ (k : List ℕ). get_or (rows_of k) (length others) no_row) w ∙ front-row above x others rest in
      place_new e _ (x ∷ rows) (rw r (put e l rows x p)) h

  copy-all : (xs done others : List Row) (l : List ℕ) → Place e l (done ++ (reverse xs ++ others)) → record_numbers * suc (length (done ++ (reverse xs ++ others)) + length xs) ≤ length e →
      Place e (copied (length xs) (length others) (length (done ++ (reverse xs ++ others))) l) (reverse xs ++ (done ++ (reverse xs ++ others)))
  unfolding copied
  copy-all [] done others l p h = p
  copy-all (x ∷ xs) done others l p h =
      let R = done ++ (reverse xs ++ (x ∷ others)) in
      let q : done ++ (reverse (x ∷ xs) ++ others) ≡ R = rw reverse-cons (simp append_assoc) in
      let z : reverse (x ∷ xs) ++ R ≡ reverse xs ++ (x ∷ R) = rw (reverse-cons, append_assoc) refl in
      let n = ap length q in
      let one = copy-one l R (done ++ reverse xs) x others (sym (append_assoc done (reverse xs) (x ∷ others))) (rw q at p) (omega arith) in
      rw (q, z) (copy-all xs (x ∷ done) (x ∷ others) _ one (omega arith))

  copy-period : (period others : List Row) (l : List ℕ) → Place e l (period ++ others) → record_numbers * suc (length (period ++ others) + length period) ≤ length e →
      Place e (copied (length period) (length others) (length (period ++ others)) l) (period ++ (period ++ others))
  copy-period period others l p h =
      rw (reverse-reverse, length-reverse) at (copy-all (reverse period) [] others l (rw reverse-reverse p) (rw (reverse-reverse, length-reverse) h))

  -- n periods
  copy-periods : (n : ℕ) (period others : List Row) (l : List ℕ) → Place e l (period ++ others) → record_numbers * suc (length (period ++ others) + n * length period) ≤ length e →
      Place e (copied (n * length period) (length others) (length (period ++ others)) l) (stacked n period (period ++ others))
  unfolding copied stacked
  copy-periods zero period others l p h = rw zero-mul p
  copy-periods (suc n) period others l p h =
      let m = length period in
      let a : suc n * m ≡ m + n * m = omega (arith, suc-mul n m) in
      let i : m + length others ≡ length (period ++ others) = sym (length-append period others) in
      let j : m + length (period ++ others) ≡ length (period ++ (period ++ others)) = sym (length-append period (period ++ others)) in
      let one = copied m (length others) (length (period ++ others)) l in
      let rest : copied (suc n * m) (length others) (length (period ++ others)) l ≡ copied (n * m) (length (period ++ others)) (length (period ++ (period ++ others))) one =
      rw (a, copied-add m (n * m), i, j) refl in
      rw rest (copy-periods n period (period ++ others) one (copy-period period others l p (omega arith)) (omega arith))

  stacked-none : (n : ℕ) (period low : List Row) → n ≡ 0 → stacked n period low ≡ low
  unfolding stacked
  stacked-none n period low z = rw z refl

  -- the rows of n periods copied, where there are any
  pub copy-growth : (n a b : ℕ) (period others low : List Row) (l : List ℕ) → low ≡ period ++ others → (n ≡ 0) ⊎ (suc (length others) ≡ a) → b ≡ suc (length low) → Place e l low →
      record_numbers * suc (length low + n * length period) ≤ length e → Place e (copied (n * length period) (a - 1) (b - 1) l) (stacked n period low)
  copy-growth n a b period others low l parts from q p h =
      ⊎_elim
      (λ z.
      let y : n * length period ≡ 0 = rw z (zero-mul (length period)) in
      rw (stacked-none n period low z, copied-end (n * length period) (a - 1) (b - 1) l y) p)
      (λ z.
      let i : a - 1 ≡ length others = omega arith in
      let j : b - 1 ≡ length low = omega arith in
      rw (i, j, parts) (copy-periods n period others l (rw parts at p) (rw parts at h)))
      from
