use Rattle.std.proofs.Common.{◌≡◌, ◌≤◌, ◌+◌, length, sym, arith}
use Rattle.table_row_structs.specs.Records.{read_count}
use Rattle.table_row_structs.proofs.Sums.{sum_to, sum-none, sum-next, read-within}
use Rattle.table_row_structs.proofs.covered_samples.Goals as goal

pub loop-k-init : goal.loop-k-init
loop-k-init c = (sym (sum-none c.args.rows.now), omega arith)

pub loop-k-preserved : goal.loop-k-preserved
loop-k-preserved c =
    let m : c.rows_read-k-end.result ≡ read_count (length c.args.rows.now) = cc in
    let q : c.rows_read-k-end.result ≤ length c.args.rows.now = omega (arith, read-within (length c.args.rows.now)) in
    let e : sum_to c.args.rows.now (c.loop-k.k + 1) ≡ sum_to c.args.rows.now c.loop-k.k + c.row_in.result.sample_count = rw c.row_in.ensures (sum-next c.args.rows.now c.loop-k.k (omega arith)) in
    (omega arith, omega arith)
