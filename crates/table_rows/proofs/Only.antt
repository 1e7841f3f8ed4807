-- Rows that cannot be joined further are the only ones of their samples.
use mathlib.Core.Path.{◌≡◌, refl, sym, ◌∙◌}
use Prim.Native.Nat.{ℕ, zero, suc, ◌+◌, ◌<◌}
use native.Mathlib.Omega.{arith}
use borrow.Author.Tests.{eq-eqb, ne_eqb}
use mathlib.Core.List.{List, [], ◌∷◌, ◌++◌}
use lib.ListN.{replicate}
use Rattle.table_rows.specs.Row.{Row, expand}
use Rattle.table_rows.specs.Joined.{joined_to, DiffersRow, LongestRows}

abbrev row : ℕ → ℕ → Row
row count index = record { count = count; index = index }

-- the rows that samples make, each sample joined to those behind it
runs : List ℕ → List Row
runs [] = []
runs (i ∷ is) = joined_to (row 1 i) (runs is)

-- a sample in front of another index
to-apart : (i : ℕ) (rs : List Row) → DiffersRow (row 1 i) rs → joined_to (row 1 i) rs ≡ row 1 i ∷ rs
unfolding joined_to
to-apart i [] d = refl
to-apart i (q ∷ qs) d = simp (ne_eqb _ _ d)

-- n samples in front of another index
runs-row : (n i : ℕ) (xs : List ℕ) (rs : List Row) → 0 < n → runs xs ≡ rs → DiffersRow (row 1 i) rs → runs (replicate n i ++ xs) ≡ row n i ∷ rs
unfolding runs joined_to
runs-row zero i xs rs h e d = absurd (omega arith)
runs-row (suc zero) i xs rs h e d = rw e (to-apart i rs d)
runs-row (suc (suc n)) i xs rs h e d =
    let more : 1 + suc n ≡ suc (suc n) = omega arith in
    rw (runs-row (suc n) i xs rs (omega arith) e d) (simp (eq-eqb i i refl, more))

differs : (r : Row) (rs : List Row) → DiffersRow r rs → DiffersRow (row 1 r.index) rs
differs r [] d = tt
differs r (q ∷ qs) d = d

runs-expand : (rs : List Row) → LongestRows rs → runs (expand rs) ≡ rs
unfolding runs expand
runs-expand [] l = refl
runs-expand (r ∷ rs) l = runs-row r.count r.index (expand rs) rs l.0 (runs-expand rs l.2) (differs r rs l.1)

pub longest-only : (a b : List Row) → LongestRows a → LongestRows b → expand a ≡ expand b → a ≡ b
longest-only a b l m e = sym (runs-expand a l) ∙ rw e (runs-expand b m)
