-- Four bytes, one after the other.
use Rattle.listing_numbers.proofs.Stores.{puts_then}
use Rattle.listing_numbers.proofs.put_type.Goals as goal

pub returns : goal.returns
returns c =
    puts_then c.put_byte-second.ensures (puts_then c.put_byte-third.ensures (puts_then c.put_byte-last.ensures c.put_byte.ensures))
