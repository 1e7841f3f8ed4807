-- The rows of an accepted csgp tell of each sample the index that its pattern gives it, and cover as many samples.
use mathlib.Core.Path.{◌≡◌, ap, sym, ◌∙◌}
use Prim.Native.Nat.{ℕ, ◌*◌, ◌≤◌}
use mathlib.Core.List.{List, [], reverse}
use lib.ListN.{length, take}
use Rattle.base_fields.specs.Answer.{given}
use Rattle.table_rows.specs.Row.{Row, Table, record_numbers, covered, index_at, filled, rows_of_table, lookup}
use Rattle.base_ids.specs.Limits.{record_limit}
use Rattle.table_rows.specs.Pattern.{Pattern, samples_of, covered_by, index_of}
use Rattle.table_replay.specs.Replay.{replay}
use Rattle.table_rows.proofs.Front.{lookup-front}
use Rattle.table_replay.proofs.Replay.{replay-index, replay-covered}
use Rattle.table_csgp_head.specs.Csgp.{csgp}
use Rattle.table_csgp.specs.Table.{parse_csgp, csgp_table}
use Rattle.base_fields.proofs.Answers.{given_inj, given-first}

module _ (s : List ℕ) (room : ℕ) {t : Table} {ps : List Pattern} (accepted : parse_csgp s room ≡ given t) (patterns : csgp s ≡ given ps) where
  rows_of : (out : List Row) × (replay room [] (samples_of ps) ≡ given out) × (t.rows ≡ reverse out)
  rows_of =
      let e = rw patterns at accepted in
      let o = given-first (replay room [] (samples_of ps)) (λ rows. given (csgp_table s rows)) e in
      (o.0, o.1, ap (λ (x : Table). x.rows) (sym (given_inj o.2)))

  pub csgp-index : (k : ℕ) → index_at t.rows k ≡ index_of ps k
  csgp-index k = rw rows_of.2 (replay-index room ps rows_of.1 k)

  pub csgp-covered : covered t.rows ≡ covered_by ps
  csgp-covered = rw rows_of.2 (replay-covered room ps rows_of.1)

  -- the same through group_index_for_sample, over the front of the run that parse_csgp wrote into
  pub csgp-lookup : (l : List ℕ) → length t.rows ≤ record_limit → (k : ℕ) → lookup (take (record_numbers * length t.rows) (filled rows_of_table (given t) l)) k ≡ given (index_of ps k)
  csgp-lookup l few k = lookup-front t l few k ∙ ap given (csgp-index k)
