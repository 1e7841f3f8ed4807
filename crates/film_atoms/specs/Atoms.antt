-- The numbers of a header and a child, in the order in which the C interface hands them out.
use Rattle.std.specs.Prelude.{ℕ, List, [], ◌∷◌, eqb}
use Rattle.std.proofs.Math.Option.{none, some}
use Rattle.base_fields.specs.Answer.{choose}
use Rattle.atom_tree.specs.Atom.{Known, Header, Child}

-- 1 where the number is absent
abbrev pub absent : Known → ℕ
absent none = 1
absent (some n) = 0

abbrev pub or_zero : Known → ℕ
or_zero none = 0
or_zero (some n) = n

-- type, whether the atom is open, total size (0 if open), header length, place of the body
abbrev pub header_numbers : Header → List ℕ
header_numbers h = h.type ∷ absent h.size ∷ or_zero h.size ∷ h.header_length ∷ h.body ∷ []

-- the header's numbers and the place of the next child
abbrev pub child_numbers : Child → List ℕ
child_numbers c = c.next ∷ header_numbers c.head

-- the end of a parent: 0 for the first number says that it is not known
abbrev pub end_from : ℕ → ℕ → Known
end_from known end = choose (eqb known 0) none (some end)
