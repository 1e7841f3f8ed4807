-- The invariant: so many samples of the index in hand are joined, and the run behind them is in hand.
use lib.ListN.{length}
use Rattle.table_structs.specs.Stream.{samples_held}
use Rattle.table_structs.proofs.Streams.{Joining}
use Rattle.table_structs.proofs.stream.joined_row.Given as goal

abbrev pub invariant-loop-next : goal.invariant-loop-next
invariant-loop-next l = Joining l.s l.table l.index l.initial.count l.initial.next l.count l.next

abbrev pub decreases-loop-next : goal.decreases-loop-next
decreases-loop-next l = length (samples_held l.s l.table l.next)
