-- Laws of a level's search: every atom ends behind its place, so the walk ends; the search goes on atom by atom; what is found stands among the given bytes.
use mathlib.Core.Path.{◌≡◌, refl, ap, sym, ◌∙◌}
use mathlib.Core.Bool.{Bool, true, false}
use mathlib.Core.List.{List, [], ◌∷◌}
use mathlib.Core.Option.{none, some}
use Prim.Native.Nat.{ℕ, zero, suc, ◌+◌, ◌-◌, ◌<◌, ◌≤◌}
use native.Mathlib.Omega.{arith}
use lib.Dec.{ltb, eqb}
use lib.ListN.{length}
use borrow.Author.Tests.{ltb-false}
use Rattle.base_fields.specs.Answer as answer
use Rattle.base_fields.specs.Answer.{Answer, given, refused, choose, and_then, input_limit}
use Rattle.base_fields.specs.Span.{Span}
use Rattle.base_fields.proofs.Answers.{Holds, given_inj, given-first, given-past, holds-given, holds-and_then, holds-refuse_if, and_then-same, and_then_assoc}
use Rattle.atom_tree.specs.Atom.{Known, Child, header_at, child_at, or_done}
use Rattle.atom_tree.proofs.Onward.{Eight, header-there, child-onward, child-fewer, or_done-same}
use Rattle.atom_path.specs.Path.{Level, end_in, atom_at, body_span, bodies_in, bodies_from, span_number, present_at, at_level, descend, path, stbl_at}
use Rattle.atom_path.specs.declared.level.Sought.{Sought}
use Rattle.atom_path.specs.Told.{sought_in}

-- an atom at the top leaves fewer bytes
top-end : (end p : ℕ) (size : Known) → Eight size → p < end → end - end_in end p size < end - p
top-end end p none h l = omega arith
top-end end p (some size) h l = omega arith

pub atom-fewer : (top : Bool) (s : List ℕ) (end : ℕ) → (top ≡ true → end ≡ length s) → (p : ℕ) {c : Child} → atom_at top s end p ≡ given c → end - c.next < end - p
atom-fewer true s end whole p {c} e =
    let f = given-first (header_at s p) _ e in
    let h = header-there s p f.1 in
    let next : end_in end p f.0.size ≡ c.next = ap (λ (x : Child). x.next) (given_inj f.2) in
    rw (← next) (top-end end p f.0.size h.eight (omega (arith, h.before, whole refl)))
atom-fewer false s end whole p e = child-fewer s p end e

-- what is added to the bodies behind an atom
abbrev pub with_body : ℕ → Child → List Span → List Span
with_body t c rest = choose (eqb c.head.type t) (body_span c ∷ rest) rest

-- what a search finds from place p on
abbrev pub searched : Bool → List ℕ → ℕ → ℕ → ℕ → ℕ → Sought → Answer Span
searched top s end t missing p x = and_then (bodies_from top s end t p) (sought_in x missing)

module _ (top : Bool) (s : List ℕ) (end t : ℕ) (whole : top ≡ true → end ≡ length s) where
  -- any bound above the bytes that are left gives the same
  bound : (n m p : ℕ) → end - p < n → end - p < m → bodies_in n top s end t p ≡ bodies_in m top s end t p
  unfolding bodies_in
  bound zero m p h k = absurd (omega arith)
  bound (suc n) zero p h k = absurd (omega arith)
  bound (suc n) (suc m) p h k =
      or_done-same (atom_at top s end p) [] _ _ (λ c e.
      let f = atom-fewer top s end whole p e in
      ap (λ (a : Answer (List Span)). and_then a (λ rest. given (with_body t c rest))) (bound n m c.next (omega (arith, f)) (omega (arith, f))))

  -- the bodies, atom by atom
  pub bodies_on : (p : ℕ)
      → bodies_from top s end t p ≡ or_done (atom_at top s end p) [] (λ c. and_then (bodies_from top s end t c.next) (λ rest. given (with_body t c rest)))
  unfolding bodies_from bodies_in
  bodies_on p =
      or_done-same (atom_at top s end p) [] _ _ (λ c e.
      ap (λ (a : Answer (List Span)). and_then a (λ rest. given (with_body t c rest)))
      (bound (end - p) (suc (end - c.next)) c.next (atom-fewer top s end whole p e) (omega arith)))

  module _ (missing p : ℕ) (x : Sought) where
    pub search-done : atom_at top s end p ≡ answer.none → searched top s end t missing p x ≡ sought_in x missing []
    search-done e = rw (bodies_on p, e) refl

    pub search-refused : {n : ℕ} → atom_at top s end p ≡ refused n → searched top s end t missing p x ≡ refused n
    search-refused e = rw (bodies_on p, e) refl

    pub search-child : {c : Child} (y : Sought) → atom_at top s end p ≡ given c
        → ((rest : List Span) → sought_in y missing rest ≡ sought_in x missing (with_body t c rest)) → searched top s end t missing p x ≡ searched top s end t missing c.next y
    search-child {c} y e f =
        rw (bodies_on p, e)
        (and_then_assoc (bodies_from top s end t c.next) _ _ ∙ and_then-same (bodies_from top s end t c.next) _ _ (λ rest g. sym (f rest)))

-- a part of the given bytes
abbrev Within : List ℕ → Span → Type 0
Within s b = b.place + b.size ≤ length s

abbrev AllWithin : List ℕ → List Span → Type 0
AllWithin s [] = Unit
AllWithin s (b ∷ bs) = Within s b × AllWithin s bs

module _ (s : List ℕ) (end t : ℕ) (inside : end ≤ length s) where
  with-within : (test : Bool) (b : Span) (rest : List Span) → Within s b → AllWithin s rest → AllWithin s (choose test (b ∷ rest) rest)
  with-within true b rest h k = (h, k)
  with-within false b rest h k = k

  done-within : (a : Answer Child) (follow : Child → Answer (List Span)) → ((c : Child) → a ≡ given c → Holds (AllWithin s) (follow c))
      → Holds (AllWithin s) (or_done a [] follow)
  done-within (given c) follow h = h c refl
  done-within answer.none follow h = tt
  done-within (refused n) follow h = tt

  bodies_within : (n p : ℕ) → Holds (AllWithin s) (bodies_in n false s end t p)
  unfolding bodies_in
  bodies_within zero p = tt
  bodies_within (suc n) p =
      done-within (child_at s p (some end)) _ (λ c e.
      let o = child-onward s p end e in
      holds-and_then (AllWithin s) (bodies_in n false s end t c.next) _ (λ rest f.
      with-within (eqb c.head.type t) (body_span c) rest (omega (arith, o.inside, o.whole)) (holds-given (AllWithin s) _ (bodies_within n c.next) f)))

number-within : (s : List ℕ) (l : List Span) (n missing : ℕ) → AllWithin s l → Holds (Within s) (span_number l n missing)
number-within s [] n missing h = tt
number-within s (b ∷ bs) zero missing h = h.0
number-within s (b ∷ bs) (suc n) missing h = number-within s bs n missing h.1

-- what is found in a level stands among the given bytes
level_holds : (s : List ℕ) (top : Bool) (found : Answer Span) → (top ≡ false → Holds (Within s) found) → Holds (Within s) (and_then found (present_at top s))
level_holds s true found h =
    holds-and_then (Within s) found _ (λ b e. holds-refuse_if (Within s) (ltb (length s) (b.place + b.size)) 11 _ (λ f. ltb-false (length s) (b.place + b.size) f))
level_holds s false (given b) h = h refl
level_holds s false answer.none h = tt
level_holds s false (refused n) h = tt

searched-holds : (s : List ℕ) (l : Level) (b : Span) → Within s b → (top : Bool) → top ≡ false
    → Holds (Within s) (and_then (bodies_from top s (b.place + b.size) l.type b.place) (λ found. span_number found l.number l.missing))
unfolding bodies_from
searched-holds s l b w true e = absurd (let z : ◌≡◌ {A = ℕ} 0 1 = cc in omega arith)
searched-holds s l b w false e =
    holds-and_then (Within s) (bodies_in (suc (b.place + b.size - b.place)) false s (b.place + b.size) l.type b.place) _ (λ found f.
    number-within s found l.number l.missing
    (holds-given (AllWithin s) _ (bodies_within s (b.place + b.size) l.type w (suc (b.place + b.size - b.place)) b.place) f))

-- a level's search, then 11
pub level-searched : (s : List ℕ) (l : Level) (b : Span)
    → at_level s l b ≡ and_then (and_then (bodies_from l.top s (b.place + b.size) l.type b.place) (λ found. span_number found l.number l.missing)) (present_at l.top s)
unfolding at_level
level-searched s l b = sym (and_then_assoc (bodies_from l.top s (b.place + b.size) l.type b.place) _ _)

pub level-within : (s : List ℕ) (l : Level) (b : Span) {x : Span} → b.place + b.size ≤ length s → at_level s l b ≡ given x → x.place + x.size ≤ length s
level-within s l b w e =
    holds-given (Within s) (at_level s l b)
    (rw (level-searched s l b)
    (level_holds s l.top (and_then (bodies_from l.top s (b.place + b.size) l.type b.place) (λ found. span_number found l.number l.missing))
    (searched-holds s l b w l.top))) e

-- so does what is found below some levels
pub descend-within : (s : List ℕ) (ls : List Level) (b : Span) {x : Span} → b.place + b.size ≤ length s → descend s ls b ≡ given x → x.place + x.size ≤ length s
unfolding descend
descend-within s [] b w e = rw (given_inj e) at w
descend-within s (l ∷ ls) b w e = let f = given-first (at_level s l b) (descend s ls) e in descend-within s ls f.0 (level-within s l b w f.1) f.2

pub stbl-within : (s : List ℕ) (k : ℕ) {x : Span} → stbl_at s k ≡ given x → x.place + x.size ≤ length s
unfolding stbl_at
stbl-within s k e =
    descend-within s (path k) (record { place = 0; size = length s }) (omega arith) (given-past (ltb input_limit (length s)) 55 _ e).1
