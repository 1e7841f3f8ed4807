-- Parts 3 and 4 of document 01: the patterns of either table.
use Rattle.std.specs.Prelude.{ℕ, List, map}
use Rattle.base_fields.specs.Answer.{Answer, given, and_then}
use Rattle.table_front.specs.declared.TableKind.{TableKind}
use Rattle.table_front.specs.declared.TableKind.TheVariants.{Sbgp, Csgp}
use Rattle.table_rows.specs.Pattern.{Pattern, single}
use Rattle.table_sbgp.specs.Sbgp.{sbgp}
use Rattle.table_csgp_head.specs.Csgp.{csgp}

-- 55, 20, 21, 22, then 23 of an sbgp, 24 to 27 of a csgp; an sbgp row is a pattern of length 1
abbrev pub patterns_of : TableKind → List ℕ → Answer (List Pattern)
patterns_of Sbgp s = and_then (sbgp s) (λ t. given (map single t.rows))
patterns_of Csgp s = csgp s

-- no table covers more samples: as many patterns as a 32-bit field counts, each with the largest count of a 32-bit field
abbrev pub covered_limit : ℕ
covered_limit = 18446744065119617025
