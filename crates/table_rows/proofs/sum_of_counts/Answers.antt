use mathlib.Core.Path.{◌≡◌}
use mathlib.Core.List.{List}
use Prim.Native.Nat.{ℕ, ◌+◌, ◌*◌, ◌/◌}
use native.Mathlib.Omega.{arith}
use borrow.Author.Rules.{rules}
use Rattle.table_rows.specs.Row.{rows_of, covered}
use Rattle.table_rows.proofs.RowAt.{rows-length, covered-from, covered-past}
use Rattle.table_rows.proofs.sum_of_counts.Goals as goal
use Rattle.table_rows.proofs.sum_of_counts.Invariants.{covered_from}

begins : (l : List ℕ) (h : ℕ) → 0 + covered_from l 0 + covered_from l (h + 0) ≡ covered (rows_of l) + covered_from l h
begins l h = let e : h + 0 ≡ h = omega arith in rw e (omega arith)

ends : (l : List ℕ) (h k sum : ℕ) → k ≡ h → sum + covered_from l k + covered_from l (h + k) ≡ covered (rows_of l) + covered_from l h
    → sum + covered_from l (2 * h) ≡ covered (rows_of l)
ends l h k sum e i = let f : h + k ≡ 2 * h = omega arith in let g = rw (f, e) at i in omega arith

pub loop-k-init : goal.loop-k-init
loop-k-init c = (search rules, c.record_count-records.ensures, search rules, begins c.args.rows.now (c.record_count-records.result / 2))

pub loop-k-preserved : goal.loop-k-preserved
loop-k-preserved c =
    let at-loop = c.before in
    let l = at-loop.args.rows.now in
    let h = at-loop.record_count-records.result / 2 in
    let k = at-loop.loop-k.k in
    let first = covered-from (rows_of l) k (omega (arith, rows-length l)) in
    let second = covered-from (rows_of l) (h + k) (omega (arith, rows-length l)) in
    let e : h + k + 1 ≡ h + (k + 1) = omega arith in
    (search rules, search rules, search rules, omega (arith, c.count_at.ensures, c.count_at-in-loop-k.ensures, first, rw e at second))

pub returns-then-records-eq1 : goal.returns-then-records-eq1
returns-then-records-eq1 c =
    let at-loop = c.before in
    let l = at-loop.args.rows.now in
    let h = at-loop.record_count-records.result / 2 in
    let all = ends l h at-loop.loop-k.k at-loop.loop-k.sum (omega arith) at-loop.loop-k.invariant.3 in
    let last = covered-from (rows_of l) (2 * h) (omega (arith, rows-length l)) in
    omega (arith, c.count_at-then-records-eq1.ensures, all, last, covered-past (rows_of l) (2 * h + 1) (omega (arith, rows-length l)))

pub returns : goal.returns
returns c =
    let at-loop = c.before in
    let l = at-loop.args.rows.now in
    let h = at-loop.record_count-records.result / 2 in
    let all = ends l h at-loop.loop-k.k at-loop.loop-k.sum (omega arith) at-loop.loop-k.invariant.3 in
    omega (arith, all, covered-past (rows_of l) (2 * h) (omega (arith, rows-length l, c.if-records-eq1.false)))
