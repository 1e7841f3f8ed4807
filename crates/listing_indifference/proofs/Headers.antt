-- What a header is read from: its first 8 bytes, the 8 behind them where the size is 1, and the length of the whole. All of these stand before the body.
use mathlib.Core.Path.{◌≡◌, refl}
use mathlib.Core.List.{List}
use mathlib.Core.Option.{none, some}
use Prim.Native.Nat.{ℕ, ◌+◌, ◌*◌, ◌≤◌}
use native.Mathlib.Omega.{arith}
use borrow.Author.Tests.{eqb-true, eqb-false}
use lib.Dec.{ltb, leb, eqb}
use lib.ListN.{length}
use Rattle.base_fields.specs.Answer.{given, and_then, input_limit}
use Rattle.base_fields.specs.Number.{be_at}
use Rattle.base_fields.proofs.Agree.{Same, be_same}
use Rattle.base_fields.proofs.Answers.{Holds, holds-refuse_if, holds-none_if, holds-choose, holds-and_then, holds-given}
use Rattle.base_fields.proofs.Bits.{Bytes}
use Rattle.base_fields.proofs.Both.{choose-same}
use Rattle.atom_tree.specs.Atom.{Known, Header, Ends, Child, last_place, sized_header, header_at, child_at, end_of, inside}
use Rattle.atom_tree.proofs.Headers.{header-sound}
use Rattle.atom_tree.proofs.Onward.{header-there}

module _ (s s' : List ℕ) (bytes : Bytes s) (bytes' : Bytes s') (long : length s ≡ length s') (p : ℕ) where
  pub header-same : Same s s' (8 * p) (8 * (p + 8)) → (be_at 4 s p ≡ 1 → Same s s' (8 * (p + 8)) (8 * (p + 16))) → header_at s p ≡ header_at s' p
  unfolding header_at
  header-same h k =
      let size = be_same 4 s s' p bytes bytes' (λ i u v. h i u (omega arith)) in
      let type = be_same 4 s s' (p + 4) bytes bytes' (λ i u v. h i (omega arith) (omega arith)) in
      rw (← long, ← size, ← type)
      (choose-same (ltb input_limit (length s)) (λ _. refl) (λ _.
      choose-same (leb (length s) p) (λ _. refl) (λ _.
      choose-same (ltb (length s) (p + 8)) (λ _. refl) (λ _.
      choose-same (eqb (be_at 4 s p) 0) (λ _. refl) (λ _.
      choose-same (eqb (be_at 4 s p) 1)
      (λ e. rw (be_same 8 s s' (p + 8) bytes bytes' (λ i u v. k (eqb-true _ _ e) i u (omega arith)))) (λ _. refl))))))

  pub child-same : Same s s' (8 * p) (8 * (p + 8)) → (be_at 4 s p ≡ 1 → Same s s' (8 * (p + 8)) (8 * (p + 16)))
      → child_at s p (some (length s)) ≡ child_at s' p (some (length s'))
  unfolding child_at
  child-same h k = rw (← long, ← (header-same h k))

-- the body stands behind these bytes
pub record Behind (s : List ℕ) (p : ℕ) (h : Header) : Type 0 where
  pub eight : p + 8 ≤ h.body
  pub more : be_at 4 s p ≡ 1 → p + 16 ≤ h.body

module _ (s : List ℕ) (p : ℕ) where
  -- a header whose size fields are n bytes
  sized-behind : (size : Known) (n : ℕ) → 8 ≤ n → (be_at 4 s p ≡ 1 → 16 ≤ n) → Holds (Behind s p) (sized_header s p size n)
  sized-behind none n eight more = record { eight = omega arith; more = λ o. omega (arith, more o) }
  sized-behind (some size) n eight more =
      holds-refuse_if (Behind s p) (ltb last_place (p + size)) 5 _ (λ _. record { eight = omega arith; more = λ o. omega (arith, more o) })

  header-behind : Holds (Behind s p) (header_at s p)
  unfolding header_at
  header-behind =
      let P = Behind s p in
      let size = be_at 4 s p in
      holds-refuse_if P (ltb input_limit (length s)) 55 _ (λ _.
      holds-none_if P (leb (length s) p) _ (λ _.
      holds-refuse_if P (ltb (length s) (p + 8)) 1 _ (λ _.
      holds-choose P (eqb size 0) _ _ (λ e. let z = eqb-true size 0 e in sized-behind none 8 (omega arith) (λ o. omega arith)) (λ _.
      holds-choose P (eqb size 1) _ _
      (λ _. holds-refuse_if P (ltb (length s) (p + 16)) 2 _ (λ _.
      holds-refuse_if P (ltb (be_at 8 s (p + 8)) 16) 4 _ (λ _. sized-behind (some (be_at 8 s (p + 8))) 16 (omega arith) (λ _. omega arith))))
      (λ e. let ne = eqb-false size 1 e in
      holds-refuse_if P (ltb size 8) 3 _ (λ _. sized-behind (some size) 8 (omega arith) (λ o. absurd (ne o))))))))

  -- where a child's body stands: behind the header's bytes, and before the next child
  pub record Placed (c : Child) : Type 0 where
    pub behind : Behind s p c.head
    pub ends : c.head.body ≤ c.next

  child-ends : (h : Header) (n : ℕ) (size : Known) → Behind s p h → h.body ≤ length s → h.body ≡ p + n → Ends p n size
      → Holds Placed (and_then (end_of p size (some (length s))) (inside (some (length s)) h))
  child-ends h n none b w e k = holds-refuse_if Placed (ltb (length s) (length s)) 6 _ (λ _. record { behind = b; ends = w })
  child-ends h n (some size) b w e k =
      holds-refuse_if Placed (ltb (length s) (p + size)) 6 _ (λ _. record { behind = b; ends = omega (arith, k.0) })

  pub child-placed : {c : Child} → child_at s p (some (length s)) ≡ given c → Placed c
  unfolding child_at
  child-placed e =
      holds-given Placed _ (holds-refuse_if Placed (ltb input_limit (length s)) 55 _ (λ _.
      holds-none_if Placed (leb (length s) p) _ (λ _.
      holds-and_then Placed (header_at s p) _ (λ h f.
      let o = header-sound s p f in
      child-ends h h.header_length h.size (holds-given (Behind s p) _ header-behind f) (header-there s p f).whole o.body o.ends)))) e
