-- The numbers of descriptions, of an entry's place and of a split index, in the order in which the C interface hands them out.
use Rattle.std.specs.Prelude.{ℕ, List, [], ◌∷◌}
use Rattle.group_sgpd.specs.Sgpd.{Description}
use Rattle.base_fields.specs.Span.{Span}
use Rattle.group_fragments.specs.Fragments.{Part, local_bit, plain_index}
use Rattle.film_status.specs.Status.{bit}

-- version, type, default length, default index, entry count
abbrev pub description_numbers : Description → List ℕ
description_numbers d = d.version ∷ d.type ∷ d.length ∷ d.index ∷ d.count ∷ []

abbrev pub span_numbers : Span → List ℕ
span_numbers e = e.place ∷ e.size ∷ []

-- 1 where the part is the fragment's
abbrev pub part_numbers : Part → List ℕ
part_numbers p = bit p.local ∷ span_numbers p.span

abbrev pub split_numbers : ℕ → List ℕ
split_numbers raw = plain_index raw ∷ bit (local_bit raw) ∷ []
