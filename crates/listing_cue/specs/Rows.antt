-- The listing by the rows of a table.
use Rattle.std.specs.Prelude.{ℕ, ◌<◌, List}
use Rattle.table_rows.specs.Row.{Row, covered, index_at, expand}
use Rattle.listing_theorem.specs.Listing.{listing}
use Rattle.listing_meanings.specs.Meant.{HasMeaning}
use Rattle.listing_measure.specs.Measured.{meanings_by}

-- every sample has a meaning
abbrev pub RowsMean : ℕ → List ℕ → List Row → Type 0
RowsMean t s rs = (k : ℕ) → k < covered rs → HasMeaning t s (index_at rs k)

abbrev pub row_listing : ℕ → List ℕ → List Row → List ℕ
row_listing t s rs = listing t (meanings_by t s (expand rs))
