-- The loop's invariant: the walk over the ring is the one from this slot on.
use Rattle.use_fragment_queue.proofs.Walk.{Ahead}
use Rattle.use_fragment_queue.proofs.fragment_lookup.Given as goal

abbrev pub invariant-loop-j : goal.invariant-loop-j
invariant-loop-j l = Ahead l.queue l.initial.at l.count l.sample l.at l.left l.j
