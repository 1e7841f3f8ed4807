use mathlib.Core.Path.{◌≡◌, refl, sym, ◌∙◌}
use Prim.Native.Nat.{◌+◌, ◌-◌, ◌≤◌, ◌<◌}
use native.Mathlib.Omega.{arith}
use Rattle.table_replay.proofs.Copying.{copied-one, copied-end}
use Rattle.table_replay.proofs.records.copy_rows.Goals as goal
use Rattle.table_replay.proofs.records.copy_rows.Goals.{In-loop-j}

behind : (c : In-loop-j) → (0 < c.args.from) × (c.args.from ≤ c.args.to)
behind c = c.requires.1 (omega arith)

pub loop-j-init : goal.loop-j-init
loop-j-init c =
    let a = c.args in
    let e : a.from + (a.to - a.to) ≡ a.from = omega arith in
    rw e refl

pub overflow_sub-at : goal.overflow_sub-at
overflow_sub-at c = let h = behind (goal.at.overflow_sub-at c).In-loop-j in omega arith

pub count_at-count-requires : goal.count_at-count-requires
count_at-count-requires c = let h = behind (goal.at.count_at-count-requires c).In-loop-j in omega arith

pub description_at-index-requires : goal.description_at-index-requires
description_at-index-requires c = let h = behind (goal.at.description_at-index-requires c).In-loop-j in omega arith

pub overflow_sub-j : goal.overflow_sub-j
overflow_sub-j c = let h = behind (goal.at.overflow_sub-j c).In-loop-j in omega arith

pub put_row-requires : goal.put_row-requires
put_row-requires c = let h = behind (goal.at.put_row-requires c).In-loop-j in omega arith

pub loop-j-preserved : goal.loop-j-preserved
loop-j-preserved c =
    let a = c.args in
    let own = c.loop-j in
    let h = behind (goal.at.loop-j-preserved c).In-loop-j in
    let i = a.from + (own.j - a.to) in
    let next : a.from + (own.j + 1 - a.to) ≡ i + 1 = omega arith in
    let p = rw (c.count_at-count.ensures, c.description_at-index.ensures) at c.put_row.ensures in
    rw next (sym (copied-one i own.j a.end own.rows (omega arith) (omega arith) c.loop-j-test.true p) ∙ own.invariant)

pub returns : goal.returns
returns c = sym (copied-end _ _ _ _ (omega (arith, c.loop-j-test.false))) ∙ c.loop-j.invariant
