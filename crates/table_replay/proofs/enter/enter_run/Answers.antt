-- Each way out is one of `enter_run`, by the tests on its way; past those for the last row a new one begins (`begins`).
use mathlib.Core.Path.{◌≡◌, sym, ◌∙◌}
use Prim.Native.Nat.{◌≤◌, ◌<◌, ◌+◌}
use native.Mathlib.Omega.{arith}
use borrow.Author.Tests.{lt-ltb, le-ltb, le-leb, lt-leb, eq-eqb, ne_eqb}
use Rattle.base_ids.specs.Limits.{count_limit}
use Rattle.table_replay.specs.Enter.{enter_run, begin_run}
use Rattle.table_replay.proofs.enter.enter_run.Goals as goal
use Rattle.table_replay.proofs.enter.enter_run.Goals.{Joined-tail-gt0, then-tail-gt0+else-tail-index, else-tail-gt0}

-- past the tests for the last row: a new row begins
begins : (c : Joined-tail-gt0) → (let a = c.args in enter_run a.room a.tail a.count a.index ≡ begin_run a.room a.tail a.count a.index)
begins c = elim c.if-tail-gt0.branch [
  | then-tail-gt0+else-tail-index w ↦ simp (lt-ltb _ _ w.if-tail-gt0.true, ne_eqb _ _ w.if-tail-index.false)
  | else-tail-gt0 w ↦ simp (le-ltb _ _ w.if-tail-gt0.false)
]

pub returns-then-tail-count : goal.returns-then-tail-count
returns-then-tail-count c =
    let a = c.args in
    let o : count_limit < a.tail.count + a.count = omega arith in
    simp (lt-ltb _ _ c.if-tail-gt0.true, eq-eqb _ _ c.if-tail-index.true, lt-ltb _ _ o)

pub returns-then-tail-index : goal.returns-then-tail-index
returns-then-tail-index c =
    let a = c.args in
    let o : a.tail.count + a.count ≤ count_limit = omega arith in
    simp (lt-ltb _ _ c.if-tail-gt0.true, eq-eqb _ _ c.if-tail-index.true, le-ltb _ _ o)

pub returns-then-room-tail : goal.returns-then-room-tail
returns-then-room-tail c = sym (begins (goal.at.returns-then-room-tail c).Joined-tail-gt0 ∙ simp (le-leb _ _ c.if-room-tail.true))

pub returns : goal.returns
returns c = sym (begins (goal.at.returns c).Joined-tail-gt0 ∙ simp (lt-leb _ _ c.if-room-tail.false))
