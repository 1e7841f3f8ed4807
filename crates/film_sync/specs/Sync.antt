-- The numbers that the C interface hands out of the sync and dependency tables.
use Rattle.std.specs.Prelude.{ℕ, Bool, List, [], ◌∷◌}
use Rattle.table_sync.specs.Sync.{Dependency}
use Rattle.film_status.specs.Status.{bit}

-- 1 for a sync sample
abbrev pub sync_numbers : Bool → List ℕ
sync_numbers b = bit b ∷ []

abbrev pub sample_numbers : ℕ → List ℕ
sample_numbers k = k ∷ []

-- is leading, depends on, is depended on, has redundancy
abbrev pub dependency_numbers : Dependency → List ℕ
dependency_numbers d = d.is_leading_by ∷ d.depends_on ∷ d.is_depended_on ∷ d.has_redundancy ∷ []
