-- The rows lent are within the array.
use mathlib.Core.Path.{sym}
use lib.Seq.{length-take-le}
use Rattle.test_vectors_tables.proofs.table.Goals as goal

pub slice_bounds-parsed-end : goal.slice_bounds-parsed-end
slice_bounds-parsed-end c = sym (length-take-le _ _ c.if-room-gt128.false)
