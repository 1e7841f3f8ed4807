use mathlib.Core.Path.{◌≡◌}
use mathlib.Core.List.{◌++◌}
use Prim.Native.Nat.{◌*◌}
use lib.ListN.{drop}
use Rattle.table_rows.specs.Row.{record_numbers, flat}
use Rattle.table_sbgp.specs.Sbgp.{read_rows}
use Rattle.table_sbgp.proofs.fill.Given as goal

abbrev pub invariant-loop-k : goal.invariant-loop-k
invariant-loop-k l = l.rows ≡ flat (read_rows l.k l.s l.first) ++ drop (record_numbers * l.k) l.initial.rows
