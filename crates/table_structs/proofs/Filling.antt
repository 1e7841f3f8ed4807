-- The rows of a plan, written over a lent run one by one.
use mathlib.Core.Path.{◌≡◌, refl, ap, sym, ◌∙◌}
use Prim.Native.Nat.{ℕ, zero, suc, ◌+◌, ◌≤◌, ◌<◌}
use native.Mathlib.Numerals.{add-one}
use native.Mathlib.Omega.{arith}
use mathlib.Core.List.{List, [], ◌∷◌, map}
use lib.ListN.{length, get_or, set, drop, length-drop}
use lib.Seq.{take_all, drop-cons}
use Rattle.base_fields.specs.Answer.{Answer, given, none, refused, overwritten}
use Rattle.table_rows.specs.Row.{Row, Table}
use Rattle.table_row_structs.specs.Records.{no_row, row_of, struct_of}
use Rattle.table_row_structs.specs.declared.SampleToGroupEntry.{SampleToGroupEntry}
use Rattle.table_row_structs.proofs.Copying.{first_of, first_of-length, first_of-next}
use Rattle.table_structs.specs.Table.{structs_of_table, GivesTableIn}
use Rattle.table_structs.specs.Stream.{rows_ahead, Joins, GivesRow}
use Rattle.table_structs.specs.Plan.{rows_told, GivesPlan}
use Rattle.table_structs.specs.declared.plan.Plan.{Plan}
use Rattle.table_structs.specs.declared.stream.RowCursor.{RowCursor}
use Rattle.table_structs.specs.declared.stream.NextRow.{NextRow}

-- rows as structs: as many, and each in its place
structs-length : (rs : List Row) → length (map struct_of rs) ≡ length rs
structs-length [] = refl
structs-length (r ∷ rs) = ap suc (structs-length rs)

structs-drop : (k : ℕ) (rs : List Row) → map struct_of (drop k rs) ≡ drop k (map struct_of rs)
structs-drop zero rs = refl
structs-drop (suc k) [] = refl
structs-drop (suc k) (r ∷ rs) = structs-drop k rs

first_inj : {A : Type 0} {a b : A} {l m : List A} → ◌≡◌ {A = List A} (a ∷ l) (b ∷ m) → (a ≡ b) × (l ≡ m)
first_inj e = (cc, cc)

abbrev structs : Answer Table → List SampleToGroupEntry
structs told = map struct_of (rows_told told)

-- the lent run once k rows are written
abbrev pub rows_written : Answer Table → List SampleToGroupEntry → ℕ → List SampleToGroupEntry
rows_written told ys k = first_of (structs told) ys k

all-written : (told : Answer Table) (ys : List SampleToGroupEntry) (n : ℕ) → n ≡ length (rows_told told) → rows_written told ys n ≡ overwritten structs_of_table told ys
all-written (given t) ys n e = let m : n ≡ length (structs (given t)) = e ∙ sym (structs-length t.rows) in rw (take_all n (structs (given t)) (omega (arith, m)), m) refl
all-written none ys n e = rw e refl
all-written (refused c) ys n e = rw e refl

-- a cursor behind k rows of a plan that has any
pub record BehindRows (told : Answer Table) (s : List ℕ) (p : Plan) (k : ℕ) (d : RowCursor) : Type 0 where
  pub rows : 0 < p.count → rows_ahead s p.table d ≡ drop k (rows_told told)
  pub joins : 0 < p.count → Joins s p.table d

module _ (told : Answer Table) (s : List ℕ) (ys : List SampleToGroupEntry) (p : Plan) (g : GivesPlan told s (length ys) p) where
  count-all : p.count ≡ length (structs told)
  count-all = g.count ∙ sym (structs-length (rows_told told))

  pub written-length : (k : ℕ) → k ≤ p.count → length (rows_written told ys k) ≡ length ys
  written-length k h = first_of-length (structs told) ys k (omega (arith, count-all)) (omega (arith, g.fits))

  -- all rows are written
  pub written_all : GivesTableIn told ys (rows_written told ys p.count) p.answer
  written_all = record { answer = g.answer; rows = all-written told ys p.count g.count }

  pub behind-first : BehindRows told s p 0 p.first
  behind-first = record { rows = g.rows; joins = g.joins }

  module _ (k : ℕ) (d : RowCursor) (b : BehindRows told s p k d) (h : k < p.count) where
    some : 0 < p.count
    some = omega arith

    pub behind-asks : Joins s p.table d × (0 < length (rows_ahead s p.table d))
    behind-asks = (b.joins some, rw (b.rows some, length-drop) (omega (arith, g.count)))

    module _ (r : NextRow) (next : GivesRow s p.table d r) where
      -- the row there, and those behind it
      there : drop k (rows_told told) ≡ row_of r.row ∷ rows_ahead s p.table r.rest
      there = sym (b.rows some) ∙ next.first

      row-there : get_or (structs told) k no_row ≡ r.row
      row-there =
          (first_inj
          (sym (drop-cons (structs told) k no_row (omega (arith, count-all)))
          ∙ sym (structs-drop k (rows_told told))
          ∙ ap (λ (rs : List Row). map struct_of rs) there)).0

      pub written_next : set (rows_written told ys k) k r.row ≡ rows_written told ys (k + 1)
      written_next = rw (← row-there) (first_of-next (structs told) ys k (omega (arith, count-all)) (omega (arith, g.fits)))

      pub behind-next : BehindRows told s p (k + 1) r.rest
      behind-next =
          let rest : drop (suc k) (rows_told told) ≡ rows_ahead s p.table r.rest = (first_inj (sym (drop-cons (rows_told told) k (row_of no_row) (omega (arith, g.count))) ∙ there)).1 in
          record { rows = λ n. rw add-one (sym rest); joins = λ n. next.joins }
