-- Every child ends at least 8 bytes on, or with its parent; what a walk of children does at each.
use mathlib.Core.Path.{◌≡◌, refl}
use mathlib.Core.Logic.{◌⊎◌, inl, inr, ⊎_elim}
use mathlib.Core.List.{List}
use mathlib.Core.Option.{none, some}
use Prim.Native.Nat.{ℕ, ◌+◌, ◌-◌, ◌<◌, ◌≤◌}
use native.Mathlib.Omega.{arith}
use lib.Dec.{ltb, leb, eqb}
use lib.ListN.{length}
use borrow.Author.Tests.{ltb-false, leb-false}
use Rattle.base_fields.specs.Answer as answer
use Rattle.base_fields.specs.Answer.{Answer, given, refused, and_then, input_limit}
use Rattle.base_fields.specs.Number.{be_at}
use Rattle.base_fields.proofs.Answers.{Holds, holds-refuse_if, holds-none_if, holds-choose, holds-and_then, holds-given}
use Rattle.atom_tree.specs.Atom.{Known, Header, Sound, Child, last_place, header_at, child_at, end_of, inside, sized_header, or_done}
use Rattle.atom_tree.proofs.Headers.{header-sound}

-- a known size is 8 at least
abbrev pub Eight : Known → Type 0
Eight none = Unit
Eight (some size) = 8 ≤ size

-- a sized child ends by its size
abbrev pub EndsAt : ℕ → Known → ℕ → Type 0
EndsAt p none next = Unit
EndsAt p (some size) next = next ≡ p + size

-- a child at place p of a parent that ends at `end`
pub record Onward (s : List ℕ) (end p : ℕ) (c : Child) : Type 0 where
  pub before : p < end
  pub inside : c.next ≤ end
  pub far : (p + 8 ≤ c.next) ⊎ (c.next ≡ end)
  pub ends : EndsAt p c.head.size c.next
  pub whole : c.head.body ≤ length s
  pub sound : Sound p c.head

-- what a header at place p tells: a byte stands there, the header is among the bytes, and a known size is 8 at least
pub record HeaderThere (s : List ℕ) (p : ℕ) (h : Header) : Type 0 where
  pub before : p < length s
  pub whole : h.body ≤ length s
  pub eight : Eight h.size

module _ (s : List ℕ) (p : ℕ) where
  sized-headed : (size n : ℕ) → p < length s → p + n ≤ length s → 8 ≤ size → Holds (HeaderThere s p) (sized_header s p (some size) n)
  sized-headed size n l w h =
      holds-refuse_if (HeaderThere s p) (ltb last_place (p + size)) 5 _ (λ e. record { before = l; whole = w; eight = h })

  headed : Holds (HeaderThere s p) (header_at s p)
  unfolding header_at
  headed =
      let P = HeaderThere s p in
      let size = be_at 4 s p in
      let long = be_at 8 s (p + 8) in
      holds-refuse_if P (ltb input_limit (length s)) 55 _ (λ _.
      holds-none_if P (leb (length s) p) _ (λ l.
      let at : p < length s = leb-false (length s) p l in
      holds-refuse_if P (ltb (length s) (p + 8)) 1 _ (λ w.
      let there : p + 8 ≤ length s = ltb-false (length s) (p + 8) w in
      holds-choose P (eqb size 0) _ _ (λ _. record { before = at; whole = there; eight = tt }) (λ _.
      holds-choose P (eqb size 1) _ _
      (λ _. holds-refuse_if P (ltb (length s) (p + 16)) 2 _ (λ w2.
      holds-refuse_if P (ltb long 16) 4 _ (λ e.
      sized-headed long 16 at (ltb-false (length s) (p + 16) w2) (omega (arith, ltb-false long 16 e)))))
      (λ _. holds-refuse_if P (ltb size 8) 3 _ (λ e. sized-headed size 8 at there (ltb-false size 8 e)))))))

  pub header-there : {h : Header} → header_at s p ≡ given h → HeaderThere s p h
  header-there e = holds-given (HeaderThere s p) (header_at s p) headed e

  child-end : (h : Header) (size : Known) (end : ℕ) → size ≡ h.size → HeaderThere s p h → Sound p h → p < end
      → Holds (Onward s end p) (and_then (end_of p size (some end)) (inside (some end) h))
  child-end h none end e k w l =
      holds-refuse_if (Onward s end p) (ltb end end) 6 _
      (λ f. record { before = l; inside = omega arith; far = inr refl; ends = rw (← e) tt; whole = k.whole; sound = w })
  child-end h (some size) end e k w l =
      holds-refuse_if (Onward s end p) (ltb end (p + size)) 6 _
      (λ f. record { before = l; inside = ltb-false end (p + size) f; far = inl (let z : Eight (some size) = rw (← e) at k.eight in omega arith); ends = rw (← e) refl; whole = k.whole; sound = w })

  pub child-onward : (end : ℕ) {c : Child} → child_at s p (some end) ≡ given c → Onward s end p c
  unfolding child_at
  child-onward end e =
      let P = Onward s end p in
      holds-given P _ (holds-refuse_if P (ltb input_limit (length s)) 55 _ (λ _.
      holds-none_if P (leb end p) _ (λ l.
      holds-and_then P (header_at s p) _ (λ h f.
      child-end h h.size end refl (header-there f) (header-sound s p f) (leb-false end p l))))) e

  -- a child ends behind its place, and leaves fewer bytes
  pub child-fewer : (end : ℕ) {c : Child} → child_at s p (some end) ≡ given c → end - c.next < end - p
  child-fewer end {c} e =
      let o = child-onward end e in
      ⊎_elim {C = end - c.next < end - p} (λ f. omega (arith, o.before, o.inside)) (λ f. omega (arith, o.before)) o.far

-- what follows needs to agree at the child only
pub or_done-same : {A : Type 0} (a : Answer Child) (done : A) (f g : Child → Answer A) → ((c : Child) → a ≡ given c → f c ≡ g c) → or_done a done f ≡ or_done a done g
or_done-same (given c) done f g e = e c refl
or_done-same answer.none done f g e = refl
or_done-same (refused n) done f g e = refl
