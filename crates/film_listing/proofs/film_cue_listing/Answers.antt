-- The listing by its contract, the status and `out` by `put_lengths`.
use Rattle.film_listing.proofs.Lists.{lists}
use Rattle.film_listing.proofs.film_cue_listing.Goals as goal

pub returns : goal.returns
returns c = lists c.cue_listing-listed.ensures c.put_lengths.ensures
