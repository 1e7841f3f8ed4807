-- Every header that is read is sound.
use mathlib.Core.Path.{◌≡◌, refl}
use mathlib.Core.List.{List}
use mathlib.Core.Option.{none, some}
use Prim.Native.Nat.{ℕ, ◌+◌, ◌≤◌}
use native.Mathlib.Omega.{arith}
use lib.Dec.{ltb, leb, eqb}
use lib.ListN.{length}
use borrow.Author.Tests.{ltb-false}
use Rattle.base_fields.specs.Answer as answer
use Rattle.base_fields.specs.Answer.{Answer, given, refused, and_then, input_limit, refuse_if, none_if}
use Rattle.base_fields.specs.Number.{be_at}
use Rattle.base_fields.proofs.Answers.{Holds, holds-refuse_if, holds-none_if, holds-choose, holds-given}
use Rattle.atom_tree.specs.Atom.{Known, Header, Ends, Sound, last_place, header, extended, by_size, header_at, declared, declared_at, sized_header}
use Rattle.base_fields.specs.Span.{Span}

module _ (s : List ℕ) (p : ℕ) where
  sized-sound : (size n : ℕ) → n ≤ size → Holds (Sound p) (sized_header s p (some size) n)
  sized-sound size n h =
      holds-refuse_if (Sound p) (ltb last_place (p + size)) 5 (given (header s p (some size) n))
      (λ e. record { body = refl; ends = (h, ltb-false last_place (p + size) e) })

  extended-sound : Holds (Sound p) (extended s p)
  extended-sound =
      let size = be_at 8 s (p + 8) in
      holds-refuse_if (Sound p) (ltb (length s) (p + 16)) 2 (refuse_if (ltb size 16) 4 (sized_header s p (some size) 16))
      (λ there. holds-refuse_if (Sound p) (ltb size 16) 4 (sized_header s p (some size) 16) (λ e. sized-sound size 16 (ltb-false size 16 e)))

  by-size-sound : (size : ℕ) → Holds (Sound p) (by_size s p size)
  by-size-sound size =
      let rest = refuse_if (ltb size 8) 3 (sized_header s p (some size) 8) in
      holds-choose (Sound p) (eqb size 0) (given (header s p none 8)) _
      (λ e. record { body = refl; ends = tt })
      (λ e. holds-choose (Sound p) (eqb size 1) (extended s p) rest
      (λ f. extended-sound)
      (λ f. holds-refuse_if (Sound p) (ltb size 8) 3 (sized_header s p (some size) 8) (λ g. sized-sound size 8 (ltb-false size 8 g))))

  sound : Holds (Sound p) (header_at s p)
  unfolding header_at
  sound =
      let rest = by_size s p (be_at 4 s p) in
      let whole = refuse_if (ltb (length s) (p + 8)) 1 rest in
      holds-refuse_if (Sound p) (ltb input_limit (length s)) 55 (none_if (leb (length s) p) whole)
      (λ e. holds-none_if (Sound p) (leb (length s) p) whole
      (λ f. holds-refuse_if (Sound p) (ltb (length s) (p + 8)) 1 rest (λ g. by-size-sound (be_at 4 s p))))

  pub header-sound : {h : Header} → header_at s p ≡ given h → Sound p h
  header-sound e = holds-given (Sound p) (header_at s p) sound e

-- the body that a sound header declares ends at a place
abbrev Placed : Span → Type 0
Placed b = b.place + b.size ≤ last_place

placed : (p place n : ℕ) (size : Known) → place ≡ p + n → Ends p n size → Holds Placed (declared place n size)
placed p place n none e h = tt
placed p place n (some size) e h = omega (arith, h.0, h.1)

pub declared-fits : (s : List ℕ) (p : ℕ) {b : Span} → declared_at s p ≡ given b → b.place + b.size ≤ last_place
unfolding declared_at
declared-fits s p e = holds-given Placed (declared_at s p) (by-header (header_at s p) (sound s p)) e
  where
    by-header : (told : Answer Header) → Holds (Sound p) told → Holds Placed (and_then told (λ h. declared h.body h.header_length h.size))
    by-header (given h) k = placed p h.body h.header_length h.size k.body k.ends
    by-header answer.none k = tt
    by-header (refused n) k = tt
