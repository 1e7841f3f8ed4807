-- The rows and the bytes lent are within the arrays.
use mathlib.Core.Path.{sym}
use lib.Seq.{length-take-le}
use Rattle.test_vectors_listing.proofs.cue.Goals as goal

pub slice_bounds-listed-end : goal.slice_bounds-listed-end
slice_bounds-listed-end c = sym (length-take-le _ _ c.if-numbers-gt128.false)

pub slice_bounds-listed-end-2 : goal.slice_bounds-listed-end-2
slice_bounds-listed-end-2 c = sym (length-take-le _ _ c.if-bytes-gt256.false)
