-- Parts 1 and 2 of document 01: atom headers, children and bodies. s is the input, p a place in it.
use Rattle.std.specs.Prelude.{ℕ, ◌+◌, ◌-◌, ◌≤◌, ◌≡◌, Bool, false, List, ltb, leb, eqb, length}
use Rattle.std.proofs.Math.Option.{Option, none, some}
use Rattle.base_fields.specs.Answer as answer
use Rattle.base_fields.specs.Answer.{Answer, given, refused, choose, refuse_if, none_if, and_then, within}
use Rattle.base_fields.specs.Number.{be_at}
use Rattle.base_fields.specs.Span.{Span}

-- a number that may be absent: the size of an open-ended atom, the end of an open-ended parent
abbrev pub Known : Type 0
Known = Option ℕ

-- an atom's header: the four type bytes as a number, the total size (none: open-ended), and the place where the body begins
pub record Header : Type 0 where
  pub type : ℕ
  pub size : Known
  pub header_length : ℕ
  pub body : ℕ

-- the largest place
abbrev pub last_place : ℕ
last_place = 18446744073709551615

abbrev pub header : List ℕ → ℕ → Known → ℕ → Header
header s p size n = record { type = be_at 4 s (p + 4); size = size; header_length = n; body = p + n }

-- the atom ends past the largest place
abbrev pub far_end : ℕ → Known → Bool
far_end p none = false
far_end p (some size) = ltb last_place (p + size)

-- a header of n bytes: 5 where the end is too far
abbrev pub sized_header : List ℕ → ℕ → Known → ℕ → Answer Header
sized_header s p size n = refuse_if (far_end p size) 5 (given (header s p size n))

-- the extended size stands in the next 8 bytes
abbrev pub extended : List ℕ → ℕ → Answer Header
extended s p =
    refuse_if (ltb (length s) (p + 16)) 2
    (refuse_if (ltb (be_at 8 s (p + 8)) 16) 4 (sized_header s p (some (be_at 8 s (p + 8))) 16))

-- by the 32-bit size: 0 is open-ended, 1 takes an extended size, 2 to 7 is refused, 8 and up is itself
abbrev pub by_size : List ℕ → ℕ → ℕ → Answer Header
by_size s p size =
    choose (eqb size 0) (sized_header s p none 8)
    (choose (eqb size 1) (extended s p) (refuse_if (ltb size 8) 3 (sized_header s p (some size) 8)))

-- Part 1
unfoldable pub header_at : List ℕ → ℕ → Answer Header
header_at s p =
    within s
    (none_if (leb (length s) p) (refuse_if (ltb (length s) (p + 8)) 1 (by_size s p (be_at 4 s p))))

-- what holds of every header that is read: the body begins behind the header, which the size covers, and the atom ends at a place
abbrev pub Ends : ℕ → ℕ → Known → Type 0
Ends p n none = Unit
Ends p n (some size) = (n ≤ size) × (p + size ≤ last_place)

pub record Sound (p : ℕ) (h : Header) : Type 0 where
  pub body : h.body ≡ p + h.header_length
  pub ends : Ends p h.header_length h.size

-- a child of a container: its header, and the place of the next child
pub record Child : Type 0 where
  pub head : Header
  pub next : ℕ

-- the place is at or past the parent's end
abbrev pub past_end : ℕ → Known → Bool
past_end p none = false
past_end p (some end) = leb end p

-- where an atom ends: a sized one by its size, an open one with its parent; 7 where that has no known end
abbrev pub end_of : ℕ → Known → Known → Answer ℕ
end_of p (some size) end = given (p + size)
end_of p none (some end) = given end
end_of p none none = refused 7

-- 6 where a child ends past a known end of its parent
abbrev pub inside : Known → Header → ℕ → Answer Child
inside none h next = given (record { head = h; next = next })
inside (some end) h next = refuse_if (ltb end next) 6 (given (record { head = h; next = next }))

-- Part 2: the child at place p of a parent; none where the walk is done
unfoldable pub child_at : List ℕ → ℕ → Known → Answer Child
child_at s p end =
    within s
    (none_if (past_end p end) (and_then (header_at s p) (λ h. and_then (end_of p h.size end) (inside end h))))

-- by what the walker answers: a child is followed, done ends the walk, a refusal stays
abbrev pub or_done : {A : Type 0} → Answer Child → A → (Child → Answer A) → Answer A
or_done (given c) done follow = follow c
or_done answer.none done follow = given done
or_done (refused n) done follow = refused n

-- the body that a header declares: 8 where the atom is open
abbrev pub declared : ℕ → ℕ → Known → Answer Span
declared place n none = refused 8
declared place n (some size) = given (record { place = place; size = size - n })

unfoldable pub declared_at : List ℕ → ℕ → Answer Span
declared_at s p = and_then (header_at s p) (λ h. declared h.body h.header_length h.size)

-- over the envelope, where there is one
abbrev pub over_envelope : ℕ → Known → Bool
over_envelope n none = false
over_envelope n (some envelope) = ltb envelope n

-- the largest body that is read
abbrev pub body_limit : ℕ
body_limit = 67108864

-- in order: over the envelope 10, over the limit 9, bytes missing 11
abbrev pub present : List ℕ → Known → Span → Answer Span
present s envelope b =
    refuse_if (over_envelope b.size envelope) 10
    (refuse_if (ltb body_limit b.size) 9
    (refuse_if (ltb (length s) (b.place + b.size)) 11 (given b)))

-- Part 2: the body of the atom whose header stands at place p, under an envelope or none
abbrev pub body_at : List ℕ → ℕ → Known → Answer Span
body_at s p envelope = and_then (declared_at s p) (present s envelope)
