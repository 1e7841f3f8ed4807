-- Part 9 of document 01: a film-wide sgpd and a fragment one, and bit 31 of a csgp index that picks between them.
use Rattle.std.specs.Prelude.{ℕ, ◌+◌, ◌*◌, ◌/◌, ◌%◌, ◌≡◌, Bool, true, false, List, [], ltb, eqb}
use Rattle.base_fields.specs.Answer.{Answer, given, none, refused, choose, and_then, within}
use Rattle.group_sgpd.specs.Sgpd.{sgpd, pick}
use Rattle.base_fields.specs.Span.{Span, bytes_at, PartAt}

-- bit 31 of an index
abbrev pub local_bit : ℕ → Bool
local_bit raw = eqb (raw / 2147483648 % 2) 1

-- the index without it
abbrev pub plain_index : ℕ → ℕ
plain_index raw = raw % 2147483648

-- an entry of one of the two payloads
pub record Part : Type 0 where
  pub local : Bool
  pub span : Span

-- entry i of the entries es of one payload
abbrev pub part_in : Bool → List Span → ℕ → Answer Part
part_in local es i = and_then (pick es i) (λ e. given (record { local = local; span = e }))

-- 55 of either payload, the film-wide one's other refusals, then the fragment's; then the entry in the payload that bit 31 picks
abbrev pub described_at : List ℕ → List ℕ → ℕ → Answer Part
described_at film fragment raw =
    within film
    (within fragment
    (and_then (sgpd film)
    (λ wide. and_then (sgpd fragment)
    (λ own. choose (local_bit raw) (part_in true own (plain_index raw)) (part_in false wide (plain_index raw))))))

-- the entry's bytes, of the payload that has it; empty without a place
abbrev pub bytes_of : List ℕ → List ℕ → Answer Part → List ℕ
bytes_of film fragment (given p) = bytes_at (choose p.local fragment film) p.span
bytes_of film fragment none = []
bytes_of film fragment (refused n) = []

-- where its part stands: in the payload that has it. The pairs are memory blocks and offsets, of the film-wide payload, of the fragment's, and of the part
abbrev pub PlaceOf : Answer Part → ℕ × ℕ → ℕ × ℕ → ℕ × ℕ → Type 0
PlaceOf (given p) film fragment part = PartAt (given p.span) (choose p.local fragment film) part
PlaceOf none film fragment part = Unit
PlaceOf (refused n) film fragment part = Unit

-- a reference to the part that an answer names: its bytes and its place
pub record GivesDescribed (told : Answer Part) (film fragment : List ℕ) (film_at fragment_at : ℕ × ℕ) (part : List ℕ) (at : ℕ × ℕ) : Type 0 where
  pub bytes : part ≡ bytes_of film fragment told
  pub place : PlaceOf told film_at fragment_at at

-- what rounding to the nearest adds to a number of hundreds q where r is left over: an exact half goes to the even one
abbrev pub round_up : ℕ → ℕ → ℕ
round_up q r = choose (ltb r 50) 0 (choose (ltb 50 r) 1 (q % 2))

-- the rate of a point: bitrate times share over 100, rounded to the nearest, an exact half to the even one (document 02, A2)
unfoldable pub rate_of : ℕ → ℕ → ℕ
rate_of bitrate share = bitrate * share / 100 + round_up (bitrate * share / 100) (bitrate * share % 100)
