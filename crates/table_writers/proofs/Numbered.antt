-- The numbers that the four calls refuse with: none is 0 or 255.
use mathlib.Core.Bool.{not}
use mathlib.Core.List.{List}
use Prim.Native.Nat.{ℕ}
use lib.Dec.{ltb, leb, eqb}
use lib.ListN.{length}
use borrow.Author.Rules.{rules}
use Rattle.base_fields.specs.Answer.{Answer}
use Rattle.base_fields.specs.Number.{field_bound}
use Rattle.base_fields.proofs.Numbered.{Number, Numbered, by-refuse_if, by-and_then}
use Rattle.base_ids.specs.Limits.{record_limit}
use Rattle.table_rows.specs.Row.{Row, rows_of, records_in, within_records}
use Rattle.table_rows.specs.Joined.{joined}
use Rattle.table_writing.specs.Remaining.{remaining, largest_count}
use Rattle.table_writing.specs.Bodies.{sbgp_bytes, csgp_bytes}
use Rattle.table_writing.specs.Write.{quote_sbgp, quote_csgp, offered, write_sbgp, write_csgp}

records-numbered : {A : Type 0} (n : ℕ) (rest : Answer A) → Numbered rest → Numbered (within_records n rest)
records-numbered n rest r = by-refuse_if Number Unit (ltb record_limit n) 55 rest (search rules) r

remaining-numbered : (rs : List Row) → Numbered (remaining rs)
unfolding remaining
remaining-numbered rs = by-refuse_if Number Unit (leb field_bound (largest_count (joined rs))) 28 _ (search rules) tt

offered-numbered : (quoted room : ℕ) (bytes : List ℕ) → Numbered (offered quoted room bytes)
offered-numbered quoted room bytes =
    by-refuse_if Number Unit (not (eqb quoted (length bytes))) 63 _ (search rules) (by-refuse_if Number Unit (ltb room quoted) 64 _ (search rules) tt)

module _ (l : List ℕ) where
  pub quote_sbgp-numbered : Numbered (quote_sbgp l)
  quote_sbgp-numbered = records-numbered (records_in l) _ tt

  pub quote_csgp-numbered : Numbered (quote_csgp l)
  quote_csgp-numbered = records-numbered (records_in l) _ (by-and_then Number Unit (remaining (rows_of l)) _ (remaining-numbered (rows_of l)) (λ _ _. tt))

  module _ (t quoted room : ℕ) where
    pub write_sbgp-numbered : Numbered (write_sbgp t l quoted room)
    write_sbgp-numbered = records-numbered (records_in l) _ (offered-numbered quoted room (sbgp_bytes t (rows_of l)))

    pub write_csgp-numbered : Numbered (write_csgp t l quoted room)
    write_csgp-numbered =
        records-numbered (records_in l) _
        (by-and_then Number Unit (remaining (rows_of l)) _ (remaining-numbered (rows_of l)) (λ rs _. offered-numbered quoted room (csgp_bytes t rs)))
