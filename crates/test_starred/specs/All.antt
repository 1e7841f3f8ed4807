-- The whole table.
use Rattle.std.specs.Prelude.{List, ◌++◌}
use Rattle.test_starred.specs.Case.{Case}
use Rattle.test_starred.specs.Headers.{headers}
use Rattle.test_starred.specs.Tables.{tables}
use Rattle.test_starred.specs.Descriptions.{descriptions}
use Rattle.test_starred.specs.Listing.{listings}

abbrev pub cases : List Case
cases = headers ++ tables ++ descriptions ++ listings
