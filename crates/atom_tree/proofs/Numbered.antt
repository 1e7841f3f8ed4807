-- The numbers that headers, children and bodies refuse with.
use mathlib.Core.Path.{◌≡◌, refl}
use mathlib.Core.List.{List}
use mathlib.Core.Option.{none, some}
use Prim.Native.Nat.{ℕ, ◌+◌}
use lib.Dec.{ltb, leb, eqb}
use lib.ListN.{length}
use borrow.Author.Rules.{rules}
use Rattle.base_fields.specs.Answer as answer
use Rattle.base_fields.specs.Answer.{Answer, given, refused, and_then}
use Rattle.base_fields.specs.Number.{be_at}
use Rattle.base_fields.specs.Span.{Span}
use Rattle.base_fields.proofs.Numbered.{RefusesBy, Number, Numbered, by-choose, by-refuse_if, by-none_if, by-within, by-and_then}
use Rattle.atom_tree.specs.Atom.{Known, Header, Child, or_done, last_place, header_at, child_at, body_at, end_of, inside, past_end, declared, declared_at, over_envelope, body_limit, present, sized_header}

-- 8 of a body, whatever else is asked for
pub declared-by : (R : ℕ → Type 0) (N : Type 0) → R 8 → (place n : ℕ) (size : Known) → RefusesBy R N (declared place n size)
declared-by R N r place n none = r
declared-by R N r place n (some size) = tt

-- what follows each child of a walk
module _ (R : ℕ → Type 0) (N : Type 0) where
  pub followed : {A : Type 0} (a : Answer Child) (seen : A) (follow : Child → Answer A) → RefusesBy R Unit a → ((c : Child) → a ≡ given c → RefusesBy R N (follow c))
      → RefusesBy R N (or_done a seen follow)
  followed (given c) seen follow f g = g c refl
  followed answer.none seen follow f g = tt
  followed (refused n) seen follow f g = f

-- the numbers of a walk's headers and children
abbrev pub WalkerNumbers : (ℕ → Type 0) → Type 0
WalkerNumbers R = R 55 × R 1 × R 2 × R 3 × R 4 × R 5 × R 6 × R 7

-- none is the walker's done
module _ (R : ℕ → Type 0) (s : List ℕ) (p : ℕ) where
  sized-by : R 5 → (size n : ℕ) → RefusesBy R Unit (sized_header s p (some size) n)
  sized-by r size n = by-refuse_if R Unit (ltb last_place (p + size)) 5 _ r tt

  pub header-by : R 55 × R 1 × R 2 × R 3 × R 4 × R 5 → RefusesBy R Unit (header_at s p)
  unfolding header_at
  header-by r =
      let size = be_at 4 s p in
      let long = be_at 8 s (p + 8) in
      by-within R Unit s _ r.0
      (by-none_if R Unit (leb (length s) p) _ tt
      (by-refuse_if R Unit (ltb (length s) (p + 8)) 1 _ r.1
      (by-choose R Unit (eqb size 0) _ _ tt
      (by-choose R Unit (eqb size 1) _ _
      (by-refuse_if R Unit (ltb (length s) (p + 16)) 2 _ r.2 (by-refuse_if R Unit (ltb long 16) 4 _ r.4 (sized-by r.5 long 16)))
      (by-refuse_if R Unit (ltb size 8) 3 _ r.3 (sized-by r.5 size 8))))))

  end_by : R 6 → R 7 → (h : Header) (size end : Known) → RefusesBy R Unit (and_then (end_of p size end) (inside end h))
  end_by six seven h none none = seven
  end_by six seven h none (some end) = by-refuse_if R Unit (ltb end end) 6 _ six tt
  end_by six seven h (some size) none = tt
  end_by six seven h (some size) (some end) = by-refuse_if R Unit (ltb end (p + size)) 6 _ six tt

  pub child-by : WalkerNumbers R → (end : Known) → RefusesBy R Unit (child_at s p end)
  unfolding child_at
  child-by r end =
      by-within R Unit s _ r.0
      (by-none_if R Unit (past_end p end) _ tt
      (by-and_then R Unit (header_at s p) _ (header-by (r.0, r.1, r.2, r.3, r.4, r.5)) (λ h e. end_by r.6 r.7 h h.size end)))

  present-by : R 9 × R 10 × R 11 → (envelope : Known) (b : Span) → RefusesBy R Unit (present s envelope b)
  present-by r envelope b =
      by-refuse_if R Unit (over_envelope b.size envelope) 10 _ r.1
      (by-refuse_if R Unit (ltb body_limit b.size) 9 _ r.0 (by-refuse_if R Unit (ltb (length s) (b.place + b.size)) 11 _ r.2 tt))

-- none is 0 or 255
module _ (s : List ℕ) (p : ℕ) where
  pub header-numbered : Numbered (header_at s p)
  header-numbered = header-by Number s p (search rules)

  pub child-numbered : (end : Known) → Numbered (child_at s p end)
  child-numbered end = child-by Number s p (search rules) end

  declared-numbered : Numbered (declared_at s p)
  unfolding declared_at
  declared-numbered = by-and_then Number Unit (header_at s p) _ header-numbered (λ h e. declared-by Number Unit (search rules) h.body h.header_length h.size)

  pub body-numbered : (envelope : Known) → Numbered (body_at s p envelope)
  body-numbered envelope = by-and_then Number Unit (declared_at s p) _ declared-numbered (λ b e. present-by Number s p (search rules) envelope b)
