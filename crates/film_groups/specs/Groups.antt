-- The numbers of a sample's group and of a listing's needs in the C interface.
use Rattle.std.specs.Prelude.{ℕ, List, [], ◌∷◌}
use Rattle.listing_needs.specs.Needs.{Needed}
use Rattle.use_sample_group.specs.SampleGroup.{Grouped, outside, missing, entry}

-- the kind, the index, the place and the length of the entry's bytes; without an entry both are 0
abbrev pub group_numbers : Grouped → List ℕ
group_numbers outside = 0 ∷ 0 ∷ 0 ∷ 0 ∷ []
group_numbers (missing i) = 1 ∷ i ∷ 0 ∷ 0 ∷ []
group_numbers (entry i e) = 2 ∷ i ∷ e.place ∷ e.size ∷ []

-- bytes of output, and records for rows
abbrev pub needs_numbers : Needed → List ℕ
needs_numbers n = n.bytes ∷ n.rows ∷ []
