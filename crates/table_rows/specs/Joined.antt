-- Joined rows (document 02, A5): rows of count 0 dropped, like neighbours joined.
use Rattle.std.specs.Prelude.{◌+◌, ◌<◌, ◌≡◌, List, [], ◌∷◌, eqb}
use Rattle.base_fields.specs.Answer.{choose}
use Rattle.table_rows.specs.Row.{Row}

-- a row in front of rows that are joined already
unfoldable pub joined_to : Row → List Row → List Row
joined_to r [] = r ∷ []
joined_to r (q ∷ qs) = choose (eqb r.index q.index) (record { count = r.count + q.count; index = r.index } ∷ qs) (r ∷ q ∷ qs)

unfoldable pub joined : List Row → List Row
joined [] = []
joined (r ∷ rs) = choose (eqb r.count 0) (joined rs) (joined_to r (joined rs))

-- rows that cannot be joined further: none of count 0, neighbours have different indices
abbrev pub DiffersRow : Row → List Row → Type 0
DiffersRow r [] = Unit
DiffersRow r (q ∷ qs) = r.index ≡ q.index → ⊥

abbrev pub LongestRows : List Row → Type 0
LongestRows [] = Unit
LongestRows (r ∷ rs) = (0 < r.count) × DiffersRow r rs × LongestRows rs
