use Rattle.group_entries.specs.Decoded.{offset_at}
use Rattle.listing_theorem.specs.Groups.{groups}
use Rattle.listing_values.proofs.Each.{each_none, each-put}
use Rattle.listing_values.proofs.alst.put_offsets.Goals as goal

pub loop-k-init : goal.loop-k-init
loop-k-init c = each_none 5 groups _

pub loop-k-preserved : goal.loop-k-preserved
unfolding offset_at
loop-k-preserved c = each-put 5 groups _ c.loop-k.k c.loop-k.invariant c.put_u32-place.ensures
