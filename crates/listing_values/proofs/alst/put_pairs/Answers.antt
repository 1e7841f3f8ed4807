use native.Mathlib.Omega.{arith}
use Rattle.group_entries.specs.Decoded.{pair_at}
use Rattle.listing_theorem.specs.Listing.{pair_bytes}
use Rattle.listing_values.proofs.Parts.{two-within}
use Rattle.listing_values.proofs.Each.{each_none, each-put}
use Rattle.listing_values.proofs.alst.put_pairs.Goals as goal

pub loop-k-init : goal.loop-k-init
loop-k-init c = each_none 6 pair_bytes _

pub loop-k-preserved : goal.loop-k-preserved
unfolding pair_at
loop-k-preserved c =
    let pair = two-within 2 2 c.read_u16-output.ensures.0 c.read_u16-total.ensures.0 (omega arith) (omega arith) c.put_two-place.ensures in
    each-put 6 pair_bytes _ c.loop-k.k c.loop-k.invariant (rw c.requires.0 at pair)
