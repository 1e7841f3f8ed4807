-- The bytes lent are within the array.
use mathlib.Core.Path.{sym}
use lib.Seq.{length-take-le}
use Rattle.test_vectors_writing.proofs.table.Goals as goal

pub slice_bounds-written-end : goal.slice_bounds-written-end
slice_bounds-written-end c = sym (length-take-le _ _ c.if-bytes-gt256.false)
