-- Sample tables: sbgp, csgp and the lookup.
use Rattle.std.specs.Prelude.{ℕ, List, [], ◌∷◌, ◌++◌}
use Rattle.base_fields.specs.Answer.{Answer, given, refused}
use Rattle.table_rows.specs.Row.{Row, Table, index_at, covered}
use Rattle.table_sbgp.specs.Sbgp.{parse_sbgp}
use Rattle.table_csgp.specs.Table.{parse_csgp}
use Rattle.test_starred.specs.Case.{Case, gives}

-- version and flags 0, and the type "rap "
abbrev pub front : List ℕ
front = 0 ∷ 0 ∷ 0 ∷ 0 ∷ 0x72 ∷ 0x61 ∷ 0x70 ∷ 0x20 ∷ []

abbrev pub u32 : ℕ → List ℕ
u32 n = 0 ∷ 0 ∷ 0 ∷ n ∷ []

abbrev pub row : ℕ → ℕ → Row
row n i = record { count = n; index = i }

abbrev pub table : List Row → Answer Table
table rows = given (record { grouping_type_of = 0x72617020; parameter = 0; rows = rows })

abbrev pub sbgp_rows : List Row
sbgp_rows = row 3 1 ∷ row 0 9 ∷ row 2 1 ∷ []

abbrev pub sbgp_payload : List ℕ
sbgp_payload = front ++ u32 3 ++ u32 3 ++ u32 1 ++ u32 0 ++ u32 9 ++ u32 2 ++ u32 1

-- a csgp whose fields all have 4 bits: n patterns, then the stream
abbrev pub csgp_payload : ℕ → List ℕ → List ℕ
csgp_payload n stream = front ++ u32 n ++ stream

abbrev pub tables : List Case
tables =
    gives (parse_sbgp sbgp_payload 3) (table sbgp_rows) ∷
    gives (parse_sbgp sbgp_payload 2) (refused 29) ∷
    gives (index_at sbgp_rows 4) 1 ∷
    gives (index_at sbgp_rows 5) 0 ∷
    gives (covered sbgp_rows) 5 ∷
    -- [1,2,2] count 7
    gives (parse_csgp (csgp_payload 1 (0x37 ∷ 0x12 ∷ 0x20 ∷ [])) 5) (table (row 1 1 ∷ row 2 2 ∷ row 1 1 ∷ row 2 2 ∷ row 1 1 ∷ [])) ∷
    gives (parse_csgp (csgp_payload 1 (0x37 ∷ 0x12 ∷ 0x20 ∷ [])) 4) (refused 29) ∷
    -- [5] count 2, [5,6] count 3
    gives (parse_csgp (csgp_payload 2 (0x12 ∷ 0x23 ∷ 0x55 ∷ 0x60 ∷ [])) 3) (table (row 3 5 ∷ row 1 6 ∷ row 1 5 ∷ [])) ∷
    -- [7] count 0, [8] count 1
    gives (parse_csgp (csgp_payload 2 (0x10 ∷ 0x11 ∷ 0x78 ∷ [])) 1) (table (row 1 8 ∷ [])) ∷
    -- a first length of 0, with the second pair missing and with it
    gives (parse_csgp (csgp_payload 2 (0x01 ∷ [])) 1) (refused 24) ∷
    gives (parse_csgp (csgp_payload 2 (0x01 ∷ 0x11 ∷ [])) 1) (refused 26) ∷
    []
