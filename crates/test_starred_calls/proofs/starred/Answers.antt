-- The parts of the table, one behind the other.
use mathlib.Core.List.{◌++◌}
use Rattle.test_starred.proofs.Row.{both}
use Rattle.test_starred_calls.specs.Headers.{headers_answered}
use Rattle.test_starred_calls.specs.Tables.{sbgp_answered, csgp_answered}
use Rattle.test_starred_calls.specs.Descriptions.{sgpd_answered, entries_answered}
use Rattle.test_starred_calls.specs.Listing.{listing_answered}
use Rattle.test_starred_calls.proofs.starred.Goals as goal

pub returns : goal.returns
returns c =
    let headers = headers_answered c.header_calls.result in
    let sbgp = sbgp_answered c.sbgp_calls.result in
    let csgp = csgp_answered c.csgp_calls.result in
    let sgpd = sgpd_answered c.sgpd_calls.result in
    let entries = entries_answered c.entry_calls.result in
    let listing = listing_answered c.listing_call.result in
    both headers (sbgp ++ csgp ++ sgpd ++ entries ++ listing) c.header_calls.ensures
    (both sbgp (csgp ++ sgpd ++ entries ++ listing) c.sbgp_calls.ensures
    (both csgp (sgpd ++ entries ++ listing) c.csgp_calls.ensures
    (both sgpd (entries ++ listing) c.sgpd_calls.ensures
    (both entries listing c.entry_calls.ensures c.listing_call.ensures))))
