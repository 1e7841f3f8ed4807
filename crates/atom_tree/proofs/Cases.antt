-- The answers of parts 1 and 2, case by case, from what the code's tests tell.
use mathlib.Core.Path.{◌≡◌, refl}
use mathlib.Core.Bool.{true, false}
use mathlib.Core.List.{List}
use mathlib.Core.Option.{none, some}
use Prim.Native.Nat.{ℕ, ◌+◌, ◌<◌, ◌≤◌}
use native.Mathlib.Omega.{arith}
use lib.ListN.{length}
use borrow.Author.Tests.{lt-ltb, le-ltb, le-leb, lt-leb, ne_eqb}
use Rattle.base_fields.specs.Answer as answer
use Rattle.base_fields.specs.Answer.{Answer, given, refused, input_limit, and_then}
use Rattle.base_fields.specs.Number.{be_at}
use Rattle.atom_tree.specs.Atom.{Known, Header, Child, present, last_place, header, extended, by_size, header_at, child_at, past_end, end_of, inside, sized_header}
use Rattle.base_fields.specs.Span.{Span}

-- a header of n bytes and a known size
module _ (s : List ℕ) (p size n : ℕ) where
  pub sized-far : last_place < p + size → refused 5 ≡ sized_header s p (some size) n
  sized-far h = simp (lt-ltb last_place (p + size) h)

  pub sized-near : p + size ≤ last_place → given (header s p (some size) n) ≡ sized_header s p (some size) n
  sized-near h = simp (le-ltb last_place (p + size) h)

module _ (s : List ℕ) (p : ℕ) where
  -- a header by the type that was read
  pub typed : (size : Known) (n type : ℕ) → type ≡ be_at 4 s (p + 4) → record { type = type; size = size; header_length = n; body = p + n } ≡ header s p size n
  typed size n type e = rw e refl

  pub extended-cut : length s < p + 16 → refused 2 ≡ extended s p
  extended-cut h = simp (lt-ltb (length s) (p + 16) h)

  -- the extended size is `size`
  module _ (there : p + 16 ≤ length s) (size : ℕ) (is : size ≡ be_at 8 s (p + 8)) where
    pub extended-small : size < 16 → refused 4 ≡ extended s p
    extended-small h = rw (← is) (simp (le-ltb (length s) (p + 16) there, lt-ltb size 16 h))

    pub extended-sized : 16 ≤ size → sized_header s p (some size) 16 ≡ extended s p
    extended-sized h = rw (← is) (simp (le-ltb (length s) (p + 16) there, le-ltb size 16 h))

  module _ (short : length s ≤ input_limit) where
    pub header-none : length s ≤ p → answer.none ≡ header_at s p
    unfolding header_at
    header-none h = simp (le-ltb input_limit (length s) short, le-leb (length s) p h)

    module _ (there : p < length s) where
      pub header-cut : length s < p + 8 → refused 1 ≡ header_at s p
      unfolding header_at
      header-cut h = simp (le-ltb input_limit (length s) short, lt-leb (length s) p there, lt-ltb (length s) (p + 8) h)

      pub header-whole : p + 8 ≤ length s → by_size s p (be_at 4 s p) ≡ header_at s p
      unfolding header_at
      header-whole h = simp (le-ltb input_limit (length s) short, lt-leb (length s) p there, le-ltb (length s) (p + 8) h)

  pub header-long : input_limit < length s → refused 55 ≡ header_at s p
  unfolding header_at
  header-long h = simp (lt-ltb input_limit (length s) h)

  pub by-size_open : (size : ℕ) → size ≡ 0 → sized_header s p none 8 ≡ by_size s p size
  by-size_open size e = rw e refl

  pub by-size-extended : (size : ℕ) → size ≡ 1 → extended s p ≡ by_size s p size
  by-size-extended size e = rw e refl

  module _ (size : ℕ) (not0 : size ≡ 0 → ⊥) (not1 : size ≡ 1 → ⊥) where
    pub by-size-small : size < 8 → refused 3 ≡ by_size s p size
    by-size-small h = simp (ne_eqb size 0 not0, ne_eqb size 1 not1, lt-ltb size 8 h)

    pub by-size-itself : 8 ≤ size → sized_header s p (some size) 8 ≡ by_size s p size
    by-size-itself h = simp (ne_eqb size 0 not0, ne_eqb size 1 not1, le-ltb size 8 h)

-- a child by its header's size and its parent's end
module _ (p : ℕ) (h : Header) where
  pub child-sized : (size end : Known) (n : ℕ) → size ≡ some n → inside end h (p + n) ≡ and_then (end_of p size end) (inside end h)
  child-sized size end n e = rw e refl

  pub child_open : (size end : Known) (limit : ℕ) → size ≡ none → end ≡ some limit → given (record { head = h; next = limit }) ≡ and_then (end_of p size end) (inside end h)
  child_open size end limit e f = rw (e, f) (simp (le-ltb limit limit (omega arith)))

-- the child at a place that is not past the parent's end
abbrev pub walked : List ℕ → ℕ → Known → Answer Child
walked s p end = and_then (header_at s p) (λ h. and_then (end_of p h.size end) (inside end h))

module _ (s : List ℕ) (p : ℕ) (end : Known) where
  pub child-long : input_limit < length s → refused 55 ≡ child_at s p end
  unfolding child_at
  child-long h = simp (lt-ltb input_limit (length s) h)

  module _ (short : length s ≤ input_limit) where
    pub child-done : past_end p end ≡ true → answer.none ≡ child_at s p end
    unfolding child_at
    child-done e = simp (le-ltb input_limit (length s) short, e)

    pub child-before : past_end p end ≡ false → walked s p end ≡ child_at s p end
    unfolding child_at
    child-before e = simp (le-ltb input_limit (length s) short, e)

pub under_envelope : (s : List ℕ) (envelope : ℕ) (b : Span) → b.size ≤ envelope → present s none b ≡ present s (some envelope) b
under_envelope s envelope b h = simp (le-ltb envelope b.size h)
