-- What the number of rows needed is good for: with so many records lent the reader gives the table, with fewer it answers 29; and the call
-- that gives the number never answers 29 itself.
use mathlib.Core.Path.{◌≡◌}
use mathlib.Core.List.{List}
use Prim.Native.Nat.{ℕ, ◌<◌, ◌≤◌}
use native.Mathlib.Omega.{arith}
use lib.ListN.{length}
use Rattle.base_fields.specs.Answer.{Answer, given, refused}
use Rattle.base_fields.proofs.Answers.{given_inj, given-first, refused-first}
use Rattle.base_fields.proofs.Firm.{Firm, firm-never_29}
use Rattle.table_rows.specs.Row.{Table}
use Rattle.table_rows.proofs.Samples.{covered_by-samples}
use Rattle.table_sbgp.specs.Sbgp.{parse_sbgp}
use Rattle.table_sbgp.proofs.Rooms.{sbgp-enough, sbgp-fewer, sbgp-roomy}
use Rattle.table_csgp.specs.Table.{parse_csgp}
use Rattle.table_csgp.proofs.Rooms.{csgp-enough, csgp-fewer, csgp-roomy}
use Rattle.table_needed.specs.Needed.{unlimited, rows_needed}
use Rattle.table_needed.proofs.Covered.{sbgp-few, csgp-few}

-- n records are enough, and no fewer: with them the reader gives one table of n rows
pub record Enough (parse : ℕ → Answer Table) (n : ℕ) : Type 0 where
  pub table : Table
  pub rows : length table.rows ≡ n
  pub enough : (room : ℕ) → n ≤ room → parse room ≡ given table
  pub fewer : (room : ℕ) → room < n → parse room ≡ refused 29

module _ (parse : List ℕ → ℕ → Answer Table) (s : List ℕ) where
  enough-of : {n : ℕ} → rows_needed parse s ≡ given n
      → ((t : Table) → parse s unlimited ≡ given t → ((room : ℕ) → length t.rows ≤ room → parse s room ≡ given t) × ((room : ℕ) → room < length t.rows → parse s room ≡ refused 29))
      → Enough (parse s) n
  enough-of e by =
      let first = given-first (parse s unlimited) (λ t. given (length t.rows)) e in
      let n = given_inj first.2 in
      let both = by first.0 first.1 in
      record {
        table = first.0;
        rows = n;
        enough = λ room h. both.0 room (omega (arith, n));
        fewer = λ room h. both.1 room (omega (arith, n));
      }

  never-of : Firm (parse s unlimited) → rows_needed parse s ≡ refused 29 → ⊥
  never-of f e = firm-never_29 (parse s unlimited) f (refused-first (parse s unlimited) (λ t. length t.rows) e)

module _ (s : List ℕ) where
  pub sbgp-needed : {n : ℕ} → rows_needed parse_sbgp s ≡ given n → Enough (parse_sbgp s) n
  sbgp-needed e = enough-of parse_sbgp s e (λ t f. (sbgp-enough s unlimited f, sbgp-fewer s unlimited f))

  pub csgp-needed : {n : ℕ} → rows_needed parse_csgp s ≡ given n → Enough (parse_csgp s) n
  csgp-needed e = enough-of parse_csgp s e (λ t f. (csgp-enough s unlimited f, csgp-fewer s unlimited f))

  pub sbgp-never_29 : rows_needed parse_sbgp s ≡ refused 29 → ⊥
  sbgp-never_29 = never-of parse_sbgp s (sbgp-roomy s unlimited (λ t e. omega (arith, sbgp-few s t e)))

  pub csgp-never_29 : rows_needed parse_csgp s ≡ refused 29 → ⊥
  csgp-never_29 = never-of parse_csgp s (csgp-roomy s unlimited (λ ps e. omega (arith, csgp-few s ps e, covered_by-samples ps)))
