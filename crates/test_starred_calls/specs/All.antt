-- Every answer of the code, and what it must be: one table.
use Rattle.std.specs.Prelude.{List, ◌++◌}
use Rattle.test_starred.specs.Case.{Case}
use Rattle.test_starred_calls.specs.Headers.{headers_answered}
use Rattle.test_starred_calls.specs.Tables.{sbgp_answered, csgp_answered}
use Rattle.test_starred_calls.specs.Descriptions.{sgpd_answered, entries_answered}
use Rattle.test_starred_calls.specs.Listing.{listing_answered}
use Rattle.test_starred_calls.specs.declared.StarredAnswers.{StarredAnswers}

abbrev pub answered : StarredAnswers → List Case
answered r =
    headers_answered r.headers ++ sbgp_answered r.sbgp ++ csgp_answered r.csgp ++ sgpd_answered r.sgpd ++ entries_answered r.entries ++ listing_answered r.listing
