-- How the number of lent records changes what the reader of an sbgp answers: with as many as rows it gives the table, with fewer it is 29.
use mathlib.Core.Path.{◌≡◌, ◌∙◌}
use mathlib.Core.List.{List}
use Prim.Native.Nat.{ℕ, ◌<◌, ◌≤◌}
use borrow.Author.Tests.{lt-ltb, le-ltb}
use lib.Dec.{ltb}
use lib.ListN.{length}
use Rattle.base_fields.specs.Answer.{given, refused}
use Rattle.base_fields.proofs.Answers.{given-first, given-past}
use Rattle.base_fields.proofs.Numbered.{by-and_then}
use Rattle.base_fields.proofs.Firm.{Other, Firm}
use Rattle.table_rows.specs.Row.{Table}
use Rattle.table_sbgp.specs.Sbgp.{sbgp, entered, parse_sbgp}
use Rattle.table_sbgp.proofs.Numbered.{sbgp-firm}

-- a table that was given with `more` records
module _ (s : List ℕ) (more : ℕ) {t : Table} (accepted : parse_sbgp s more ≡ given t) where
  pub sbgp-read : sbgp s ≡ given t
  sbgp-read =
      let first = given-first (sbgp s) (entered more) accepted in
      first.1 ∙ (given-past (ltb more (length first.0.rows)) 29 (given first.0) first.2).1

  pub sbgp-enough : (room : ℕ) → length t.rows ≤ room → parse_sbgp s room ≡ given t
  sbgp-enough room h = rw sbgp-read (simp (le-ltb room (length t.rows) h))

  pub sbgp-fewer : (room : ℕ) → room < length t.rows → parse_sbgp s room ≡ refused 29
  sbgp-fewer room h = rw sbgp-read (simp (lt-ltb room (length t.rows) h))

-- with records for all rows it is never 29
pub sbgp-roomy : (s : List ℕ) (room : ℕ) → ((t : Table) → sbgp s ≡ given t → length t.rows ≤ room) → Firm (parse_sbgp s room)
sbgp-roomy s room h = by-and_then Other ⊥ (sbgp s) (entered room) (sbgp-firm s) (λ t e. rw (le-ltb room (length t.rows) (h t e)) tt)
