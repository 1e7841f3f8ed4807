-- Laws of the table in an sbgp payload: behind its front, and its rows one by one.
use mathlib.Core.Path.{◌≡◌, refl, ap, ◌∙◌}
use Prim.Native.Nat.{ℕ, zero, suc, ◌+◌, ◌*◌, ◌<◌, ◌≤◌}
use native.Mathlib.Omega.{arith}
use mathlib.Core.List.{List, [], ◌∷◌, ◌++◌}
use lib.ListN.{length, drop, length-append}
use borrow.Author.Tests.{lt-ltb, le-ltb}
use Rattle.base_fields.specs.Answer.{refused}
use Rattle.base_fields.specs.Number.{be_at}
use Rattle.base_fields.specs.Refusal.{number}
use Rattle.base_fields.specs.declared.refusal.Refusal.{Refusal}
use Rattle.base_fields.specs.declared.refusal.Refusal.TheVariants.{NoRecordLeft}
use Rattle.std.specs.Prelude.{Ok, Err}
use Rattle.table_rows.specs.Row.{Row, record_numbers, flat, records_in, put_row}
use Rattle.table_rows.specs.Found.{GivesTable}
use Rattle.table_rows.proofs.Rows.{front-put}
use Rattle.table_front.specs.Front.{count_of}
use Rattle.table_front.specs.Told.{FrontOf}
use Rattle.table_front.specs.declared.TableFront.{TableFront}
use Rattle.table_front.specs.declared.TableKind.TheVariants.{Sbgp}
use Rattle.table_front.proofs.Fronts.{front_rest}
use Rattle.table_sbgp.specs.Sbgp.{read_rows, rows_place, table_in, sbgp, parse_sbgp}
use Rattle.table_sbgp.specs.Head.{SbgpLaid}
use Rattle.table_sbgp.specs.declared.SbgpHead.{SbgpHead}

-- behind its front, a payload has all of its rows or not
module _ (s : List ℕ) (f : TableFront) (o : FrontOf Sbgp s f) where
  behind : sbgp s ≡ table_in s
  unfolding sbgp
  behind = front_rest Sbgp s o.there (table_in s)

  pub rows_cut : length s < f.first + 8 * f.count → sbgp s ≡ refused 23
  rows_cut h = let b : length s < rows_place s + 8 * count_of Sbgp s = rw (← o.first, ← o.count) h in behind ∙ simp (lt-ltb _ _ b)

  pub rows-there : f.first + 8 * f.count ≤ length s →
      SbgpLaid s (record { grouping_type = f.grouping_type; grouping_type_parameter = f.grouping_type_parameter; first = f.first; entry_count = f.count })
  rows-there h =
      let b : rows_place s + 8 * count_of Sbgp s ≤ length s = rw (← o.first, ← o.count) h in
      record {
        table = behind ∙ rw (o.grouping_type_of, o.parameter, o.count, o.first) (simp (le-ltb _ _ b));
        first = o.first;
        inside = h;
        short = o.there.short;
      }

abbrev pub row_at : List ℕ → ℕ → Row
row_at s p = record { count = be_at 4 s p; index = be_at 4 s (p + 4) }

pub read_rows-length : (n : ℕ) (s : List ℕ) (p : ℕ) → length (read_rows n s p) ≡ n
unfolding read_rows
read_rows-length zero s p = refl
read_rows-length (suc n) s p = rw (read_rows-length n s (p + 8)) refl

-- n rows and then one more
pub read_rows-last : (n : ℕ) (s : List ℕ) (p : ℕ) → read_rows (n + 1) s p ≡ read_rows n s p ++ (row_at s (p + 8 * n) ∷ [])
unfolding read_rows
read_rows-last zero s p = ap (λ (q : ℕ). row_at s q ∷ []) (omega arith)
read_rows-last (suc n) s p =
    let d : suc n + 1 ≡ suc (n + 1) = omega arith in
    let e : p + 8 + 8 * n ≡ p + 8 * suc n = omega arith in
    rw d (ap (λ (l : List Row). row_at s p ∷ l) (read_rows-last n s (p + 8) ∙ rw e refl))

-- the next row of the payload written behind those before it
pub put_next : (s : List ℕ) (p n : ℕ) (l : List ℕ) → n < records_in l →
    put_row n (be_at 4 s (p + 8 * n)) (be_at 4 s (p + 8 * n + 4)) (flat (read_rows n s p) ++ drop (record_numbers * n) l) ≡ flat (read_rows (n + 1) s p) ++ drop (record_numbers * (n + 1)) l
put_next s p n l h =
    let e = read_rows-length n s p in
    let m : length (read_rows n s p ++ (row_at s (p + 8 * n) ∷ [])) ≡ n + 1 = simp (length-append, e) in
    rw (read_rows-last n s p) (rw (e, m) at (front-put (read_rows n s p) (row_at s (p + 8 * n)) l (rw e h)))

-- what parse_sbgp answers, by the payload's head
module _ (s before : List ℕ) where
  pub refusal : (e : Refusal) → sbgp s ≡ refused (number e) → GivesTable (parse_sbgp s (records_in before)) before before (Err e)
  refusal e h = rw h (record { answer = refl; rows = refl })

  module _ (h : SbgpHead) (l : SbgpLaid s h) where
    pub no_room : records_in before < h.entry_count → GivesTable (parse_sbgp s (records_in before)) before before (Err NoRecordLeft)
    no_room b =
        let e = read_rows-length h.entry_count s h.first in
        rw l.table (simp (e, lt-ltb _ _ b) (record { answer = refl; rows = refl }))

    pub room : (after : List ℕ) → h.entry_count ≤ records_in before →
        after ≡ flat (read_rows h.entry_count s h.first) ++ drop (record_numbers * h.entry_count) before →
        GivesTable (parse_sbgp s (records_in before)) before after
        (Ok
        (record {
          grouping_type = h.grouping_type;
          grouping_type_parameter = h.grouping_type_parameter;
          entry_count = h.entry_count;
        }))
    room after b w =
        let e = read_rows-length h.entry_count s h.first in
        rw l.table (simp (e, le-ltb _ _ b) (record { answer = simp e; rows = simp e w }))
