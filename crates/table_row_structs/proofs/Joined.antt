-- The two forms of rows agree: what is read from structs that a run of numbers was written over is what is read from the run.
use mathlib.Core.Path.{◌≡◌, sym, ◌∙◌}
use Prim.Native.Nat.{ℕ}
use mathlib.Core.List.{List}
use lib.ListN.{length, take, drop}
use lib.Seq.{take_at}
use Rattle.base_fields.specs.Answer.{given}
use Rattle.table_rows.specs.Row.{rows_of, records_in, lookup, total}
use Rattle.table_row_structs.specs.Records.{record_rows, lookup_in, total_in, rows_copied, structs_of, copy_into}
use Rattle.table_row_structs.specs.declared.SampleToGroupEntry.{SampleToGroupEntry}
use Rattle.table_row_structs.proofs.Copying.{entries-length, entries-rows, given-all}

pub lookup-joined : (l : List ℕ) (k : ℕ) → lookup_in (structs_of l) k ≡ lookup l k
lookup-joined l k = rw (entries-length l, entries-rows l)

pub total-joined : (l : List ℕ) → total_in (structs_of l) ≡ total l
total-joined l = rw (entries-length l, entries-rows l)

-- where a run is written, the first n rows are its records
module _ (l : List ℕ) (rows : List SampleToGroupEntry) (n : ℕ) (e : copy_into l rows ≡ given n) where
  abbrev after : List SampleToGroupEntry
  after = rows_copied (copy_into l rows) l rows

  pub front-entries : take n after ≡ structs_of l
  front-entries =
      let g : n ≡ records_in l = (given-all n (records_in l) (length rows) (sym e)).0 in
      rw e (take_at (structs_of l) (drop n rows) n (entries-length l ∙ sym g))

  pub front-rows : record_rows (take n after) ≡ rows_of l
  front-rows = rw front-entries (entries-rows l)

  pub front-lookup : (k : ℕ) → lookup_in (take n after) k ≡ lookup l k
  front-lookup k = rw front-entries (lookup-joined l k)

  pub front-total : total_in (take n after) ≡ total l
  front-total = rw front-entries (total-joined l)
