-- A lookup over the rows that a table's reader wrote in front of a lent run.
use mathlib.Core.Path.{◌≡◌, ap, sym, ◌∙◌}
use mathlib.Core.List.{List, [], append-nil}
use Prim.Native.Nat.{ℕ, ◌*◌, ◌≤◌}
use native.Mathlib.Omega.{arith}
use lib.ListN.{length, take, drop}
use lib.Seq.{take_at}
use borrow.Author.Tests.{le-ltb}
use Rattle.base_fields.specs.Answer.{given}
use Rattle.table_rows.specs.Row.{Table, record_numbers, rows_of, flat, index_at, records_in, filled, rows_of_table, lookup}
use Rattle.base_ids.specs.Limits.{record_limit}
use Rattle.table_rows.proofs.Rows.{flat-length, rows_of-flat}

module _ (t : Table) (l : List ℕ) where
  -- the numbers of the rows are the front of the run
  pub front-taken : take (record_numbers * length t.rows) (filled rows_of_table (given t) l) ≡ flat t.rows
  front-taken = take_at (flat t.rows) (drop (record_numbers * length t.rows) l) (record_numbers * length t.rows) (flat-length t.rows)

  pub lookup-front : length t.rows ≤ record_limit → (k : ℕ) → lookup (take (record_numbers * length t.rows) (filled rows_of_table (given t) l)) k ≡ given (index_at t.rows k)
  lookup-front h k =
      let r : rows_of (flat t.rows) ≡ t.rows = ap rows_of (sym (append-nil (flat t.rows))) ∙ rows_of-flat t.rows [] (omega arith) in
      let few : records_in (flat t.rows) ≤ record_limit = omega (arith, flat-length t.rows) in
      rw front-taken (simp (le-ltb record_limit (records_in (flat t.rows)) few, r))
