-- The words tell of all indices that end within them (`far-run`); the loop behind them is that of `equal_indices`.
use Rattle.table_patterns.specs.Place.{field_number}
use Rattle.table_patterns.specs.Run.{AlikeIndices, alike}
use Rattle.table_patterns.proofs.run.far_indices.Given as goal

abbrev pub invariant-loop-count : goal.invariant-loop-count
invariant-loop-count l = AlikeIndices (field_number l.width l.s l.place) l.from l.end (alike l.count l.index)
