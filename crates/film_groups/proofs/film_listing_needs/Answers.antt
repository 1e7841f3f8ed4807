-- The needs by their contract, the status and `out` by `put_needs`.
use Rattle.film_groups.proofs.film_listing_needs.Goals as goal

pub returns : goal.returns
returns c = rw c.listing_needs.ensures at c.put_needs.ensures
