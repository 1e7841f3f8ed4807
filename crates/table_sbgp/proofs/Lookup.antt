-- The rows of an accepted sbgp tell of each sample the index that its row, a pattern of length 1, gives it, and cover as many samples.
use mathlib.Core.Path.{◌≡◌, ap, sym, ◌∙◌}
use mathlib.Core.List.{List, map}
use Prim.Native.Nat.{ℕ, ◌*◌, ◌≤◌}
use lib.ListN.{length, get_or, take}
use Rattle.base_fields.specs.Answer.{given}
use Rattle.table_rows.specs.Row.{Table, record_numbers, covered, index_at, filled, rows_of_table, lookup}
use Rattle.base_ids.specs.Limits.{record_limit}
use Rattle.table_rows.specs.Pattern.{single, index_of, covered_by}
use Rattle.table_rows.proofs.Front.{lookup-front}
use Rattle.table_rows.proofs.Samples.{index_at-expand, covered-expand, index_of-samples, covered_by-samples, samples-single}
use Rattle.table_sbgp.specs.Sbgp.{parse_sbgp}

module _ (s : List ℕ) (room : ℕ) {t : Table} (accepted : parse_sbgp s room ≡ given t) where
  pub sbgp-index : (k : ℕ) → index_at t.rows k ≡ index_of (map single t.rows) k
  sbgp-index k =
      index_at-expand t.rows k ∙ ap (λ (l : List ℕ). get_or l k 0) (sym (samples-single t.rows))
      ∙ sym (index_of-samples (map single t.rows) k)

  pub sbgp-covered : covered t.rows ≡ covered_by (map single t.rows)
  sbgp-covered =
      covered-expand t.rows ∙ ap length (sym (samples-single t.rows)) ∙ sym (covered_by-samples (map single t.rows))

  -- the same through group_index_for_sample, over the front of the run that parse_sbgp wrote into
  pub sbgp-lookup : (l : List ℕ) → length t.rows ≤ record_limit → (k : ℕ) → lookup (take (record_numbers * length t.rows) (filled rows_of_table (given t) l)) k ≡ given (index_of (map single t.rows) k)
  sbgp-lookup l few k = lookup-front t l few k ∙ ap given (sbgp-index k)
