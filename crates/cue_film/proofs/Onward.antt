-- An atom at the top that has a size ends behind its place, at a place.
use mathlib.Core.Path.{◌≡◌}
use mathlib.Core.Bool.{false}
use mathlib.Core.List.{List}
use mathlib.Core.Option.{none, some}
use Prim.Native.Nat.{ℕ, ◌+◌, ◌≤◌}
use borrow.Author.Tests.{ltb-false}
use Rattle.base_fields.specs.Answer.{given}
use Rattle.base_fields.proofs.Answers.{holds-refuse_if, holds-and_then, holds-given}
use Rattle.atom_tree.specs.Atom.{Known, last_place, header_at, far_end}
use Rattle.atom_tree.proofs.Onward.{Eight, header-there}
use Rattle.cue_film.specs.TopAtoms.{Top, placed_at, top_at}

abbrev pub Ahead : ℕ → Known → Type 0
Ahead p none = Unit
Ahead p (some n) = (8 ≤ n) × (p + n ≤ last_place)

ahead : (p : ℕ) (size : Known) → Eight size → far_end p size ≡ false → Ahead p size
ahead p none e f = tt
ahead p (some n) e f = (e, ltb-false last_place (p + n) f)

pub top-ahead : (s : List ℕ) (p : ℕ) {a : Top} → top_at s p ≡ given a → Ahead p a.size
top-ahead s p e =
    holds-given (λ (a : Top). Ahead p a.size) (top_at s p)
    (holds-and_then (λ (a : Top). Ahead p a.size) (header_at s 0) (placed_at p) (λ h f.
    holds-refuse_if (λ (a : Top). Ahead p a.size) (far_end p h.size) 5 _ (λ g. ahead p h.size (header-there s 0 f).eight g)))
    e
