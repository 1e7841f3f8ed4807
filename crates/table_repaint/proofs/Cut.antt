-- The runs that rows are cut into expand to the changed map, and are few: no more than two beyond the rows.
use mathlib.Core.Path.{◌≡◌, refl, ap, ◌∙◌}
use Prim.Native.Nat.{ℕ, ◌+◌, ◌-◌, ◌≤◌, min}
use native.Mathlib.Nat.{sub-zero}
use native.Mathlib.Decide.{dec_lt}
use native.Mathlib.Omega.{arith}
use mathlib.Core.List.{List, [], ◌∷◌, append-nil}
use lib.ListN.{length, replicate, length-replicate}
use Rattle.table_rows.specs.Row.{Row, expand}
use Rattle.table_rows.proofs.Samples.{expand_append}
use Rattle.base_ids.specs.Limits.{count_limit}
use Rattle.table_replay.proofs.Longest.{SmallCounts}
use Rattle.table_repaint.specs.Repaint.{changed_from, changed}
use Rattle.table_repaint.specs.Cut.{run, pieces, rows_cut, rows_with, rows_with_all}
use Rattle.table_repaint.proofs.Map.{changed_append, changed-run, three}
use Rattle.table_repaint.proofs.Runs.{some, with-few}

pub expand-pieces : (a b i : ℕ) (r : Row)
    → expand (pieces a b i r) ≡ three r.index i (min r.count a) (min r.count b - min r.count a) (r.count - min r.count b)
unfolding expand pieces
expand-pieces a b i r = rw append-nil

less : (a k c : ℕ) → a - k - min c (a - k) ≡ a - (k + c)
less a k c = omega arith

-- from sample k on
cut-from : (a b i : ℕ) → a ≤ b → (k : ℕ) (rs : List Row) → expand (rows_cut (a - k) (b - k) i rs) ≡ changed_from k a b i (expand rs)
unfolding expand rows_cut changed_from
cut-from a b i h k [] = refl
cut-from a b i h k (r ∷ rs) =
    let c = r.count in
    let rest = rows_cut (a - k - min c (a - k)) (b - k - min c (b - k)) i rs in
    let later : expand rest ≡ changed_from (k + c) a b i (expand rs) = rw (less a k c, less b k c) (cut-from a b i h (k + c) rs) in
    expand_append (pieces (a - k) (b - k) i r) rest
    ∙ rw (later, expand-pieces (a - k) (b - k) i r)
    (rw (changed_append a b i k (replicate c r.index) (expand rs), length-replicate c r.index, changed-run a b i h k c r.index) refl)

pub expand-cut : (a b i : ℕ) → a ≤ b → (rs : List Row) → expand (rows_cut a b i rs) ≡ changed a b i (expand rs)
expand-cut a b i h rs = simp sub-zero at (cut-from a b i h 0 rs)

-- their counts are no larger than the rows'
pub cut-counts : (a b i : ℕ) (rs : List Row) → SmallCounts rs → SmallCounts (rows_cut a b i rs)
unfolding rows_cut pieces
cut-counts a b i [] c = tt
cut-counts a b i (r ∷ rs) c =
    let small : r.count ≤ count_limit = c.0 in
    (omega arith, (omega arith, (omega arith, cut-counts (a - min r.count a) (b - min r.count b) i rs c.1)))

-- a row adds one row, and one more for each of a and b that is left behind
some-zero : {n : ℕ} → n ≡ 0 → some n ≡ 0
unfolding some
some-zero e = omega arith

pub some_one : (n : ℕ) → some n ≤ 1
unfolding some
some_one n = omega arith

some_more : {m n : ℕ} → m ≤ n → some m ≤ some n
unfolding some
some_more h = omega arith

few : (a b c x y : ℕ) → a ≤ b → x ≡ min c a → y ≡ min c b → some x + some (y - x) + some (c - y) + some (a - x) + some (b - y) ≤ 1 + some a + some b
few a b c x y h e f =
    let na = some_more {m = a - x} {n = a} (omega arith) in
    let nb = some_more {m = b - y} {n = b} (omega arith) in
    elim (dec_lt a c) [
      | yes l ↦
          let ex : x ≡ a = omega arith in
          let za = some-zero {n = a - x} (omega arith) in
          elim (dec_lt b c) [
            | yes g ↦ omega (arith, some-zero {n = b - y} (omega arith), some_more {m = y - x} {n = b} (omega arith), some_one (c - y), ap some ex)
            | no g ↦ omega (arith, some-zero {n = c - y} (omega arith), some_one (y - x), ap some ex)
          ]
      | no l ↦ omega (arith, some-zero {n = y - x} (omega arith), some-zero {n = c - y} (omega arith), some_one x)
    ]

pub pieces-few : (out : List Row) (a b i : ℕ) (r : Row) → a ≤ b →
    length (rows_with_all out (pieces a b i r)) + some (a - min r.count a) + some (b - min r.count b) ≤ length out + 1 + some a + some b
unfolding rows_with_all pieces
pieces-few out a b i r h =
    let c = r.count in
    let x = min c a in
    let y = min c b in
    let p = run x r.index in
    let q = run (y - x) i in
    let one = rows_with out p in
    let two = rows_with one q in
    omega (arith, with-few out p, with-few one q, with-few two (run (c - y) r.index), few a b c x y h refl refl)
