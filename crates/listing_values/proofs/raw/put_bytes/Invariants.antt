-- The invariant: the bytes passed are put.
use lib.ListN.{take}
use Rattle.listing_numbers.specs.Store.{Puts}
use Rattle.listing_values.proofs.raw.put_bytes.Given as goal

abbrev pub invariant-loop-byte : goal.invariant-loop-byte
invariant-loop-byte l = Puts (take l.byte-index l.entry) l.at l.initial.out l.out l.place
