-- The loop's invariant: the index of the sample is what the rows not passed give the samples that are left.
use mathlib.Core.Path.{◌≡◌}
use lib.ListN.{drop}
use Rattle.table_rows.specs.Row.{index_at}
use Rattle.table_row_structs.specs.Records.{record_rows}
use Rattle.table_row_structs.proofs.group_index_for_sample.Given as goal

abbrev pub invariant-loop-row : goal.invariant-loop-row
invariant-loop-row l = index_at (record_rows l.rows) l.fn.sample.0 ≡ index_at (record_rows (drop l.row-index l.rows)) l.left
