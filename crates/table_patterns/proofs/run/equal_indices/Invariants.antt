-- The loop's invariant: the indices passed are alike.
use Rattle.table_patterns.specs.Place.{field_number}
use Rattle.table_patterns.specs.Run.{AlikeIndices}
use Rattle.table_patterns.proofs.run.equal_indices.Given as goal

abbrev pub invariant-loop-count : goal.invariant-loop-count
invariant-loop-count l = AlikeIndices (field_number l.width l.s l.place) l.from l.end (record { count = l.count; index = l.index })
