-- Fields of four bytes.
use Rattle.std.specs.Prelude.{ℕ, ◌/◌, ◌%◌, List, [], ◌∷◌, ◌++◌}
use Rattle.table_rows.specs.Row.{Row}

abbrev pub word : ℕ → List ℕ
word v = v / 16777216 % 256 ∷ v / 65536 % 256 ∷ v / 256 % 256 ∷ v % 256 ∷ []

unfoldable pub words : List ℕ → List ℕ
words [] = []
words (v ∷ vs) = word v ++ words vs

-- the words of an sbgp's rows: the count and the index of each
unfoldable pub words_of_rows : List Row → List ℕ
words_of_rows [] = []
words_of_rows (r ∷ rs) = r.count ∷ r.index ∷ words_of_rows rs
