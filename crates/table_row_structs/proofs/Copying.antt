-- The records of a run of numbers as structs, and a run written over rows one record at a time.
use mathlib.Core.Path.{◌≡◌, refl, ap, sym, ◌∙◌}
use Prim.Native.Nat.{ℕ, suc, ◌+◌, ◌<◌, ◌≤◌}
use native.Mathlib.Decide.{dec_lt}
use native.Mathlib.Numerals.{add-one}
use native.Mathlib.Omega.{arith}
use mathlib.Core.List.{List, [], ◌∷◌, ◌++◌, map, append_assoc}
use lib.ListN.{length, get_or, set, take, drop, length-append, length-drop, length-map, get_or-map}
use lib.Seq.{length-take-le, take_all, take-suc, drop-cons, set_at}
use borrow.Author.Tests.{lt-ltb, le-ltb}
use Rattle.std.specs.Prelude.{Result, Ok, Err}
use Rattle.base_fields.specs.Answer.{Answer, given}
use Rattle.base_fields.specs.Refusal.{told_value}
use Rattle.base_fields.specs.declared.refusal.Refusal.{Refusal}
use Rattle.table_rows.specs.Row as row
use Rattle.table_rows.specs.Row.{Row, rows_of, records_in}
use Rattle.table_rows.proofs.RowAt.{rows-length}
use Rattle.base_ids.specs.Limits.{record_limit}
use Rattle.table_row_structs.specs.Records.{no_row, row_of, record_rows, copy_answer, rows_copied, struct_of, structs_of, copy_into}
use Rattle.table_row_structs.specs.Steps.{accepted_in, GivesRows}
use Rattle.table_row_structs.specs.declared.SampleToGroupEntry.{SampleToGroupEntry}

pub entries-length : (l : List ℕ) → length (structs_of l) ≡ records_in l
entries-length l = length-map (rows_of l) struct_of ∙ rows-length l

-- the record at a place
pub entry_at : (l : List ℕ) (k : ℕ) → get_or (structs_of l) k no_row ≡ struct_of (get_or (rows_of l) k row.no_row)
entry_at l k = get_or-map struct_of (rows_of l) k row.no_row

-- the structs of a run of numbers are its rows
pub entries-rows : (l : List ℕ) → record_rows (structs_of l) ≡ rows_of l
entries-rows l = same (rows_of l)
  where
    same : (rs : List Row) → map row_of (map struct_of rs) ≡ rs
    same [] = refl
    same (r ∷ rs) = ap (λ (t : List Row). r ∷ t) (same rs)

-- an answer that is no refusal is the number of records, and they fit
pub given-all : (m a b : ℕ) → ◌≡◌ {A = Answer ℕ} (given m) (copy_answer a b) → (m ≡ a) × (a ≤ b)
given-all m a b e =
    elim (dec_lt record_limit a) [
      | yes g ↦ absurd (let f = rw (lt-ltb record_limit a g) at e in let z : ◌≡◌ {A = ℕ} 0 1 = cc in omega arith)
      | no g ↦
          let t = le-ltb record_limit a (omega arith) in
          elim (dec_lt b a) [
            | yes h ↦ absurd (let f = rw (t, lt-ltb b a h) at e in let z : ◌≡◌ {A = ℕ} 0 1 = cc in omega arith)
            | no h ↦
                let f = rw (t, le-ltb b a (omega arith)) at e in
                let q : m ≡ a = cc in
                (q, omega arith)
          ]
    ]

-- the first k of some records stand in front of rows
module _ (es rows : List SampleToGroupEntry) where
  abbrev pub first_of : ℕ → List SampleToGroupEntry
  first_of k = take k es ++ drop k rows

  pub first_of-length : (k : ℕ) → k ≤ length es → k ≤ length rows → length (first_of k) ≡ length rows
  first_of-length k g h = simp (length-append, length-take-le k es g, length-drop) (omega arith)

  pub first_of-next : (k : ℕ) → k < length es → k < length rows → set (first_of k) k (get_or es k no_row) ≡ first_of (k + 1)
  first_of-next k g h =
      let e = get_or es k no_row in
      let put : set (take k es ++ get_or rows k no_row ∷ drop (suc k) rows) k e ≡ take k es ++ e ∷ drop (suc k) rows = set_at (take k es) (get_or rows k no_row) (drop (suc k) rows) e k (length-take-le k es (omega arith)) in
      rw (drop-cons rows k no_row h, put, add-one, take-suc es k no_row g) (sym (append_assoc (take k es) (e ∷ []) (drop (suc k) rows)))

module _ (l : List ℕ) (rows : List SampleToGroupEntry) where
  -- the first k records of a run of numbers
  abbrev pub up_to : ℕ → List SampleToGroupEntry
  up_to k = first_of (structs_of l) rows k

  pub up_to-length : (k : ℕ) → k ≤ records_in l → k ≤ length rows → length (up_to k) ≡ length rows
  up_to-length k g h = first_of-length (structs_of l) rows k (omega (arith, entries-length l)) h

  pub up_to-next : (k : ℕ) → k < records_in l → k < length rows → set (up_to k) k (get_or (structs_of l) k no_row) ≡ up_to (k + 1)
  up_to-next k g h = first_of-next (structs_of l) rows k (omega (arith, entries-length l)) h

  module _ (r : Result ℕ Refusal) (e : told_value r ≡ copy_into l rows) where
    pub accepted-within : (accepted_in r ≤ records_in l) × (accepted_in r ≤ length rows)
    accepted-within = within r e
      where
        within : (r : Result ℕ Refusal) → told_value r ≡ copy_into l rows → (accepted_in r ≤ records_in l) × (accepted_in r ≤ length rows)
        within (Ok m) e = let g = given-all m (records_in l) (length rows) e in (omega (arith, g), omega (arith, g))
        within (Err x) e = (omega arith, omega arith)

    pub copies : GivesRows l rows (up_to (accepted_in r)) r
    copies = record { answer = e; rows = ends r e ∙ ap (λ (a : Answer ℕ). rows_copied a l rows) e }
      where
        ends : (r : Result ℕ Refusal) → told_value r ≡ copy_into l rows → up_to (accepted_in r) ≡ rows_copied (told_value r) l rows
        ends (Ok m) e =
            let g = given-all m (records_in l) (length rows) e in
            rw (take_all m (structs_of l) (omega (arith, g, entries-length l)))
        ends (Err x) e = refl
