-- The head, then the rows.
use mathlib.Core.Path.{◌∙◌}
use native.Mathlib.Omega.{arith}
use Rattle.table_rows.specs.Row.{rows_of}
use Rattle.table_writers.proofs.Bytes.{sbgp-put}
use Rattle.table_rows.proofs.RowAt.{rows-length}
use Rattle.table_writers.proofs.sbgp.put_sbgp.Goals as goal

pub returns : goal.returns
returns c =
    let l = c.args.rows.now in
    c.put_rows.ensures
    ∙ rw (c.put_head.ensures, c.record_count.ensures, ← rows-length l) (sbgp-put c.args.grouping_type (rows_of l) c.args.out.now (omega (arith, rows-length l, c.requires.1)))
