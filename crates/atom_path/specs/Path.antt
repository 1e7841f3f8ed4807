-- Request A1 of document 02: from all given bytes s of a film down to the body of one track's stbl, through five levels: moov, trak, mdia, minf, stbl.
use Rattle.std.specs.Prelude.{ℕ, zero, suc, ◌+◌, ◌-◌, Bool, true, false, List, [], ◌∷◌, ltb, eqb, length}
use Rattle.std.proofs.Math.Option.{none, some}
use Rattle.base_fields.specs.Answer as answer
use Rattle.base_fields.specs.Answer.{Answer, given, refused, choose, refuse_if, and_then, within}
use Rattle.base_fields.specs.Span.{Span}
use Rattle.atom_tree.specs.Atom.{Known, Child, header_at, child_at, or_done}

-- a level of the path: the type that is looked for, which atom of that type (from 0), the refusal where it is missing, and whether the level is the top
pub record Level : Type 0 where
  pub type : ℕ
  pub number : ℕ
  pub missing : ℕ
  pub top : Bool

-- where an atom at place p ends: a sized one by its size, an open one where its level does
abbrev pub end_in : ℕ → ℕ → Known → ℕ
end_in end p none = end
end_in end p (some size) = p + size

-- the atom at place p of a level that ends at `end`; none where the level ends. At the top it may pass the given bytes; below it is a child like any
-- other. Headers are read from all given bytes
abbrev pub atom_at : Bool → List ℕ → ℕ → ℕ → Answer Child
atom_at true s end p = and_then (header_at s p) (λ h. given (record { head = h; next = end_in end p h.size }))
atom_at false s end p = child_at s p (some end)

-- the body of an atom, from behind its header to its end; empty where the header passes that end
abbrev pub body_span : Child → Span
body_span c = record { place = c.head.body; size = c.next - c.head.body }

-- the bodies of the atoms of type t from place p to the level's end, in order, if there are fewer than n atoms
unfoldable pub bodies_in : ℕ → Bool → List ℕ → ℕ → ℕ → ℕ → Answer (List Span)
bodies_in zero top s end t p = answer.none
bodies_in (suc n) top s end t p =
    or_done (atom_at top s end p) [] (λ c.
    and_then (bodies_in n top s end t c.next) (λ rest. given (choose (eqb c.head.type t) (body_span c ∷ rest) rest)))

-- They are fewer than the bytes that are left, and one: an atom ends behind its place. So the bound is never met: the law `bodies_on` of
-- proofs/Bodies.antt says the same without it
unfoldable pub bodies_from : Bool → List ℕ → ℕ → ℕ → ℕ → Answer (List Span)
bodies_from top s end t p = bodies_in (suc (end - p)) top s end t p

-- number n of a list, from 0
abbrev pub span_number : List Span → ℕ → ℕ → Answer Span
span_number [] n missing = refused missing
span_number (b ∷ bs) zero missing = given b
span_number (b ∷ bs) (suc n) missing = span_number bs n missing

-- at the top, the first moov is 11 where it passes the given bytes
abbrev pub present_at : Bool → List ℕ → Span → Answer Span
present_at true s b = refuse_if (ltb (length s) (b.place + b.size)) 11 (given b)
present_at false s b = given b

-- a level is walked to its end, with the walk's own numbers, before its match is used
unfoldable pub at_level : List ℕ → Level → Span → Answer Span
at_level s l b =
    and_then (bodies_from l.top s (b.place + b.size) l.type b.place) (λ found.
    and_then (span_number found l.number l.missing) (present_at l.top s))

-- each container is searched within the one above it
unfoldable pub descend : List ℕ → List Level → Span → Answer Span
descend s [] b = given b
descend s (l ∷ ls) b = and_then (at_level s l b) (descend s ls)

abbrev pub moov_type : ℕ
moov_type = 0x6d6f6f76

abbrev pub trak_type : ℕ
trak_type = 0x7472616b

abbrev pub mdia_type : ℕ
mdia_type = 0x6d646961

abbrev pub minf_type : ℕ
minf_type = 0x6d696e66

abbrev pub stbl_type : ℕ
stbl_type = 0x7374626c

-- a level below the top
abbrev lower : ℕ → ℕ → ℕ → Level
lower t n missing = record { type = t; number = n; missing = missing; top = false }

-- the first moov, else 60; in it trak number k, else 60; in it the first mdia, minf and stbl, each else 61
abbrev pub path : ℕ → List Level
path k =
    record { type = moov_type; number = 0; missing = 60; top = true } ∷
    lower trak_type k 60 ∷ lower mdia_type 0 61 ∷ lower minf_type 0 61 ∷ lower stbl_type 0 61 ∷ []

-- the body of the stbl of track k
unfoldable pub stbl_at : List ℕ → ℕ → Answer Span
stbl_at s k = within s (descend s (path k) (record { place = 0; size = length s }))
