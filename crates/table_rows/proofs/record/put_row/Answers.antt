use native.Mathlib.Numerals.{add-one}
use native.Mathlib.Omega.{arith}
use lib.ListN.{length-set}
use Rattle.table_rows.specs.Row.{flat}
use Rattle.table_rows.proofs.record.put_row.Goals as goal

pub bounds-rows-k-2 : goal.bounds-rows-k-2
bounds-rows-k-2 c = simp length-set (omega arith)

pub returns : goal.returns
unfolding flat
returns c = rw add-one
