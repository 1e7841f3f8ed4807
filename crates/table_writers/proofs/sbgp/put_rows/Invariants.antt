-- The words still to come make of the output what all of them make of the first.
use mathlib.Core.Path.{◌≡◌}
use Prim.Native.Nat.{◌+◌, ◌*◌}
use lib.ListN.{length, drop}
use lib.Seq.{sets}
use Rattle.table_rows.specs.Row.{rows_of, records_in}
use Rattle.table_writers.specs.Words.{words, words_of_rows}
use Rattle.table_writers.proofs.sbgp.put_rows.Given as goal

abbrev pub invariant-loop-k : goal.invariant-loop-k
invariant-loop-k l =
    (l.k-end ≡ records_in l.rows) × (length l.out ≡ length l.initial.out)
    × (sets l.out (12 + 8 * l.k) (words (words_of_rows (drop l.k (rows_of l.rows)))) ≡ sets l.initial.out 12 (words (words_of_rows (rows_of l.rows))))
