use Rattle.listing_theorem.specs.Listing.{point_bytes}
use Rattle.listing_values.proofs.Each.{each_none, each-put}
use Rattle.listing_values.proofs.rash.put_points.Goals as goal

pub loop-k-init : goal.loop-k-init
loop-k-init c = each_none 8 point_bytes _

pub loop-k-preserved : goal.loop-k-preserved
loop-k-preserved c = each-put 8 point_bytes _ c.loop-k.k c.loop-k.invariant c.put_point-place.ensures
