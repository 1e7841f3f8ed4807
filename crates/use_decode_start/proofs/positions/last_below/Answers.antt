-- The last turn that has the position: there is none, or its sample is told.
use mathlib.Core.Path.{◌≡◌, ap, sym, ◌∙◌}
use Prim.Native.Nat.{suc, ◌+◌, ◌-◌, ◌%◌, min}
use native.Mathlib.Nat.{mod-le}
use native.Mathlib.Omega.{arith}
use Rattle.use_decode_start.specs.Inner.{told_latest}
use Rattle.use_decode_start.proofs.Turns.{LastTurn, last_turn}
use Rattle.use_decode_start.proofs.Bests.{last_none, last_some}
use Rattle.use_decode_start.proofs.positions.last_below.Goals as goal
use Rattle.use_decode_start.proofs.positions.last_below.Goals.{After-min-n, After-turn_back-back}

-- the pattern's samples below the limit
module _ (c : After-min-n) where
  below : c.min-n.result ≡ min c.args.count (c.args.limit - c.args.start)
  below = c.min-n.ensures ∙ ap (min c.args.count) c.saturating_sub.ensures

-- and their last turn that has the position
module _ (c : After-turn_back-back) where
  turn : LastTurn c.args.length c.args.position c.requires.1 c.min-n.result (c.min-n.result - c.min-n.result % c.args.length) c.turn_back-back.result
  turn = last_turn c.args.length c.args.position c.requires.1 c.min-n.result c.turn_back-back.ensures

pub overflow_cast-n : goal.overflow_cast-n
overflow_cast-n c = omega (arith, c.min-n.ensures)

pub overflow_sub-whole : goal.overflow_sub-whole
overflow_sub-whole c = omega (arith, mod-le c.min-n.result c.args.length)

pub overflow_add-next : goal.overflow_add-next
overflow_add-next c = omega (arith, c.requires.0)

pub overflow_add-next-2 : goal.overflow_add-next-2
overflow_add-next-2 c = omega (arith, c.requires.0)

pub overflow_add-result : goal.overflow_add-result
overflow_add-result c = omega (arith, c.requires.0)

pub returns-then-whole-back : goal.returns-then-whole-back
returns-then-whole-back c =
    let at = c.args in
    sym (last_none at.limit at.start at.count at.length at.position (omega (arith, below (goal.at.returns-then-whole-back c).After-min-n, (turn (goal.at.returns-then-whole-back c).After-turn_back-back).none c.if-whole-back.true)))

pub returns-else-whole-back : goal.returns-else-whole-back
returns-else-whole-back c =
    let at = c.args in
    let t = (turn (goal.at.returns-else-whole-back c).After-turn_back-back).some c.if-whole-back.false in
    let e : at.start + at.position + 1 + (c.min-n.result - c.min-n.result % at.length - c.turn_back-back.result) ≡ suc (at.start + (at.position + (c.min-n.result - c.min-n.result % at.length - c.turn_back-back.result))) = omega arith in
    ap told_latest e ∙ sym (rw (← below (goal.at.returns-else-whole-back c).After-min-n, t.1) at (last_some at.limit at.start at.count at.length at.position (omega (arith, below (goal.at.returns-else-whole-back c).After-min-n, t.0))))
