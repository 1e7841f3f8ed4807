-- The numbers that the search refuses with: those of the headers and children that it passes, and its own. It always gives a body or a refusal: it is
-- never out of steps.
use mathlib.Core.Path.{◌≡◌, refl}
use mathlib.Core.Bool.{Bool, true, false}
use mathlib.Core.List.{List, [], ◌∷◌}
use mathlib.Core.Option.{some}
use Prim.Native.Nat.{ℕ, zero, suc, ◌+◌, ◌-◌, ◌<◌}
use native.Mathlib.Omega.{arith}
use lib.Dec.{ltb}
use lib.ListN.{length}
use borrow.Author.Rules.{rules}
use Rattle.base_fields.specs.Answer.{none}
use Rattle.base_fields.specs.Span.{Span}
use Rattle.base_fields.proofs.Numbered.{RefusesBy, Number, Numbered, by-refuse_if, by-within, by-and_then}
use Rattle.base_fields.proofs.Firm.{Other, Firm, firm-settled, never-none}
use Rattle.atom_tree.specs.Atom.{header_at}
use Rattle.atom_tree.proofs.Numbered.{WalkerNumbers, followed, header-by, child-by}
use Rattle.atom_path.specs.Path.{Level, atom_at, bodies_from, span_number, present_at, at_level, descend, stbl_at}
use Rattle.atom_path.proofs.Bodies.{atom-fewer, bodies_on}

-- the search's own numbers
abbrev SearchNumbers : (ℕ → Type 0) → Type 0
SearchNumbers R = R 11 × R 60 × R 61

module _ (R : ℕ → Type 0) (N : Type 0) (walker : WalkerNumbers R) (r : SearchNumbers R) (s : List ℕ) where
  -- none is the end of the level
  atom-by : (top : Bool) (end p : ℕ) → RefusesBy R Unit (atom_at top s end p)
  atom-by true end p =
      by-and_then R Unit (header_at s p) _ (header-by R s p (walker.0, walker.1, walker.2, walker.3, walker.4, walker.5)) (λ h e. tt)
  atom-by false end p = child-by R s p walker (some end)

  -- the bodies from a place with fewer than n bytes behind it
  module _ (top : Bool) (end t : ℕ) (whole : top ≡ true → end ≡ length s) where
    bodies_by : (n p : ℕ) → end - p < n → RefusesBy R N (bodies_from top s end t p)
    bodies_by zero p h = absurd (omega arith)
    bodies_by (suc n) p h =
        rw (bodies_on top s end t whole p)
        (followed R N (atom_at top s end p) [] _ (atom-by top end p) (λ c e.
        by-and_then R N (bodies_from top s end t c.next) _ (bodies_by n c.next (omega (arith, atom-fewer top s end whole p e))) (λ rest f. tt)))

  number_by : (l : List Span) (n missing : ℕ) → R missing → RefusesBy R N (span_number l n missing)
  number_by [] n missing m = m
  number_by (b ∷ bs) zero missing m = tt
  number_by (b ∷ bs) (suc n) missing m = number_by bs n missing m

  present-by : (top : Bool) (b : Span) → RefusesBy R N (present_at top s b)
  present-by true b = by-refuse_if R N (ltb (length s) (b.place + b.size)) 11 _ r.0 tt
  present-by false b = tt

  level_by : (l : Level) (b : Span) → (l.top ≡ true → b.place + b.size ≡ length s) → R l.missing → RefusesBy R N (at_level s l b)
  unfolding at_level
  level_by l b whole m =
      let end = b.place + b.size in
      by-and_then R N (bodies_from l.top s end l.type b.place) _
      (bodies_by l.top end l.type whole (suc (end - b.place)) b.place (omega arith)) (λ found e.
      by-and_then R N (span_number found l.number l.missing) _ (number_by found l.number l.missing m) (λ x f. present-by l.top x))

  -- levels below the top
  abbrev Lower : List Level → Type 0
  Lower [] = Unit
  Lower (l ∷ ls) = (l.top ≡ false) × R l.missing × Lower ls

  descend-by : (ls : List Level) (b : Span) → Lower ls → RefusesBy R N (descend s ls b)
  unfolding descend
  descend-by [] b m = tt
  descend-by (l ∷ ls) b m =
      by-and_then R N (at_level s l b) (descend s ls)
      (level_by l b (λ e. let f = m.0 in let z : ◌≡◌ {A = ℕ} 0 1 = cc in absurd (omega arith)) m.1) (λ x e. descend-by ls x m.2)

  -- from the top, whose level is all the given bytes
  top-by : (l : Level) (ls : List Level) → R l.missing → Lower ls → RefusesBy R N (descend s (l ∷ ls) (record { place = 0; size = length s }))
  unfolding descend
  top-by l ls m n =
      let b : Span = record { place = 0; size = length s } in
      by-and_then R N (at_level s l b) (descend s ls) (level_by l b (λ e. omega arith) m) (λ x e. descend-by ls x n)

  pub stbl-by : (k : ℕ) → RefusesBy R N (stbl_at s k)
  unfolding stbl_at
  stbl-by k = by-within R N s _ walker.0 (top-by _ _ r.1 (refl, r.1, (refl, r.2, (refl, r.2, (refl, r.2, tt)))))

module _ (s : List ℕ) (k : ℕ) where
  -- none is 0 or 255
  pub stbl-numbered : Numbered (stbl_at s k)
  stbl-numbered = stbl-by Number Unit (search rules) (search rules) s k

  -- what is lent for rows and output does not matter to a search
  pub stbl-firm : Firm (stbl_at s k)
  stbl-firm = stbl-by Other ⊥ (search rules) (search rules) s k

  pub stbl-answered : stbl_at s k ≡ none → ⊥
  stbl-answered e = never-none (stbl_at s k) (firm-settled (stbl_at s k) stbl-firm) e
