-- The answers of the level's steps, case by case, from what the code's tests tell.
use mathlib.Core.Path.{◌≡◌, refl, sym, ◌∙◌}
use mathlib.Core.Bool.{Bool, true}
use mathlib.Core.List.{List, ◌∷◌}
use Prim.Native.Nat.{ℕ, zero, suc, ◌+◌, ◌-◌, ◌<◌, ◌≤◌}
use native.Mathlib.Omega.{arith}
use lib.Dec.{eqb}
use lib.ListN.{length}
use borrow.Author.Tests.{lt-ltb, le-ltb, eq-eqb, ne_eqb, eqb-true}
use Rattle.base_fields.specs.Answer as answer
use Rattle.base_fields.specs.Answer.{Answer, given, refused, choose, input_limit}
use Rattle.base_fields.specs.Span.{Span}
use Rattle.atom_tree.specs.Atom.{Header, Child, header_at}
use Rattle.atom_path.specs.Told.{levels_left}
use Rattle.atom_path.specs.Path.{Level, end_in, atom_at, body_span, span_number, present_at, at_level, descend, path, stbl_at}

-- an atom at the top, by the header reader's answer
module _ (s : List ℕ) (end p : ℕ) where
  pub top-headed : {h : Header} {next : ℕ} → header_at s p ≡ given h → next ≡ end_in end p h.size → given (record { head = h; next = next }) ≡ atom_at true s end p
  top-headed e f = rw (e, f) refl

  pub top-none : header_at s p ≡ answer.none → answer.none ≡ atom_at true s end p
  top-none e = rw e refl

  pub top-refused : {n : ℕ} → header_at s p ≡ refused n → refused n ≡ atom_at true s end p
  top-refused e = rw e refl

-- 11
module _ (s : List ℕ) (b : Span) where
  pub body-past : length s < b.place + b.size → refused 11 ≡ present_at true s b
  body-past h = simp (lt-ltb _ _ h)

  pub body-there : b.place + b.size ≤ length s → given b ≡ present_at true s b
  body-there h = simp (le-ltb _ _ h)

-- the search behind an atom
module _ (c : Child) (t : ℕ) (missing : ℕ) (rest : List Span) where
  pub behind-other : (n : ℕ) → (c.head.type ≡ t → ⊥) → span_number rest n missing ≡ span_number (choose (eqb c.head.type t) (body_span c ∷ rest) rest) n missing
  behind-other n h = simp (ne_eqb c.head.type t h)

  pub behind_match : {b : Span} {n : ℕ} → c.head.type ≡ t → n ≡ 0 → b ≡ body_span c → given b ≡ span_number (choose (eqb c.head.type t) (body_span c ∷ rest) rest) n missing
  behind_match h e f = rw (e, f) (simp (eq-eqb c.head.type t h))

  pub behind-passed : (n : ℕ) → c.head.type ≡ t → (n ≡ 0 → ⊥) → span_number rest (n - 1) missing ≡ span_number (choose (eqb c.head.type t) (body_span c ∷ rest) rest) n missing
  behind-passed zero h e = absurd (e refl)
  behind-passed (suc n) h e = let z : suc n - 1 ≡ n = omega arith in simp (eq-eqb c.head.type t h, z)

-- the top is the level with five to go
pub top-level : {top : Bool} {n : ℕ} → top ≡ eqb n 5 → top ≡ true → n ≡ 5
top-level {top} {n} e f = eqb-true n 5 (sym e ∙ f)

-- down the levels
module _ (s : List ℕ) where
  pub down_level : {ls : List Level} {l : Level} {rest : List Level} (b : Span) {x : Span} → ls ≡ l ∷ rest → at_level s l b ≡ given x → descend s rest x ≡ descend s ls b
  unfolding descend
  down_level b e f = rw (e, f) refl

  pub down_refused : {ls : List Level} {l : Level} {rest : List Level} (b : Span) {n : ℕ} → ls ≡ l ∷ rest → at_level s l b ≡ refused n → refused n ≡ descend s ls b
  unfolding descend
  down_refused b e f = rw (e, f) refl

  -- the last level's answer
  pub down_last : (k : ℕ) {n : ℕ} {l : Level} (b : Span) (a : Answer Span) → n ≡ 1 → levels_left n k ≡ l ∷ levels_left (n - 1) k → a ≡ at_level s l b
      → a ≡ descend s (levels_left n k) b
  unfolding descend
  down_last k b (given x) e f g = rw (f, e, ← g) refl
  down_last k b answer.none e f g = rw (f, e, ← g) refl
  down_last k b (refused m) e f g = rw (f, e, ← g) refl

  pub stbl-long : (k : ℕ) → input_limit < length s → refused 55 ≡ stbl_at s k
  unfolding stbl_at
  stbl-long k h = simp (lt-ltb _ _ h)

  pub stbl-short : (k : ℕ) → length s ≤ input_limit → descend s (path k) (record { place = 0; size = length s }) ≡ stbl_at s k
  unfolding stbl_at
  stbl-short k h = simp (le-ltb _ _ h)
