-- The type, the number of samples, and nothing in hand behind them.
use native.Mathlib.Omega.{arith}
use Rattle.listing_stretches.proofs.Entering.{begins}
use Rattle.listing_stretches.proofs.ends.begin_listing.Goals as goal

pub returns : goal.returns
returns c =
    rw c.begun.ensures (begins _ _ _ _ _ _ _ c.put_type-behind_type.ensures c.put_number-at.ensures (omega (arith, c.ranges.covered)))
