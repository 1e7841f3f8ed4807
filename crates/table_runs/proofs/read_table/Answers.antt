use mathlib.Core.Path.{refl}
use Rattle.base_fields.proofs.Handed.{handed}
use Rattle.table_runs.proofs.Steps.{held_rows, held-patterns}
use Rattle.table_runs.proofs.read_table.Goals as goal

pub returns-in_ok-head-in-Sbgp : goal.returns-in_ok-head-in-Sbgp
returns-in_ok-head-in-Sbgp c =
    rw c.in-Sbgp.is (held_rows _ _ (rw c.in_ok-head-in-Sbgp.was at c.read_sbgp.ensures))

pub returns-in_err-head-in-Sbgp : goal.returns-in_err-head-in-Sbgp
returns-in_err-head-in-Sbgp c =
    rw (handed c.from_residual.ensures, c.in-Sbgp.is, rw c.in_err-head-in-Sbgp.was at c.read_sbgp.ensures) refl

pub returns-in_ok-head-in-Csgp : goal.returns-in_ok-head-in-Csgp
returns-in_ok-head-in-Csgp c =
    rw c.in-Csgp.is (held-patterns _ _ (rw c.in_ok-head-in-Csgp.was at c.read_csgp.ensures))

pub returns-in_err-head-in-Csgp : goal.returns-in_err-head-in-Csgp
returns-in_err-head-in-Csgp c =
    rw (handed c.from_residual-in_err-head-in-Csgp.ensures, c.in-Csgp.is) (rw c.in_err-head-in-Csgp.was at c.read_csgp.ensures)
