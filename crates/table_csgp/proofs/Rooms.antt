-- How the number of lent records changes what the reader of a csgp answers: with as many as rows it gives the table, with fewer it is 29.
use mathlib.Core.Path.{◌≡◌, refl, ap, sym, ◌∙◌}
use mathlib.Core.List.{List, []}
use Prim.Native.Nat.{ℕ, ◌<◌, ◌≤◌}
use native.Mathlib.Omega.{arith}
use lib.ListN.{length, length-reverse}
use Rattle.base_fields.specs.Answer.{given, refused}
use Rattle.base_fields.proofs.Answers.{given_inj, given-first}
use Rattle.base_fields.proofs.Numbered.{by-and_then}
use Rattle.base_fields.proofs.Firm.{Other, Firm}
use Rattle.table_rows.specs.Row.{Row, Table}
use Rattle.table_rows.specs.Pattern.{Pattern, samples_of}
use Rattle.table_replay.specs.Replay.{replay}
use Rattle.table_replay.proofs.Rooms.{Needs, replay-needs, replay-roomy}
use Rattle.table_csgp_head.specs.Csgp.{csgp}
use Rattle.table_csgp_head.proofs.Numbered.{csgp-firm}
use Rattle.table_csgp.specs.Table.{parse_csgp, csgp_table}

-- a table that was given with `more` records
module _ (s : List ℕ) (more : ℕ) {t : Table} (accepted : parse_csgp s more ≡ given t) where
  record Replayed : Type 0 where
    ps : List Pattern
    read : csgp s ≡ given ps
    out : List Row
    needs : Needs (λ room. replay room [] (samples_of ps)) [] out
    table : csgp_table s out ≡ t

  replayed : Replayed
  replayed =
      let first = given-first (csgp s) _ accepted in
      let rows = given-first (replay more [] (samples_of first.0)) _ first.2 in
      record {
        ps = first.0;
        read = first.1;
        out = rows.0;
        needs = replay-needs more [] (samples_of first.0) rows.1;
        table = given_inj rows.2;
      }

  rows_out : length t.rows ≡ length replayed.out
  rows_out = ap (λ (x : Table). length x.rows) (sym replayed.table) ∙ length-reverse replayed.out

  pub csgp-enough : (room : ℕ) → length t.rows ≤ room → parse_csgp s room ≡ given t
  csgp-enough room h = rw (replayed.read, replayed.needs.enough room (omega (arith, rows_out))) (ap given replayed.table)

  pub csgp-fewer : (room : ℕ) → room < length t.rows → parse_csgp s room ≡ refused 29
  csgp-fewer room h = rw (replayed.read, replayed.needs.fewer room (omega arith) (omega (arith, rows_out))) refl

-- with records for all samples it is never 29
pub csgp-roomy : (s : List ℕ) (room : ℕ) → ((ps : List Pattern) → csgp s ≡ given ps → length (samples_of ps) ≤ room) → Firm (parse_csgp s room)
csgp-roomy s room h =
    by-and_then Other ⊥ (csgp s) _ (csgp-firm s)
    (λ ps e. by-and_then Other ⊥ (replay room [] (samples_of ps)) _ (replay-roomy room [] (samples_of ps) (omega (arith, h ps e))) (λ rows g. tt))
