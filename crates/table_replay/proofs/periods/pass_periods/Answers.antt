-- Where no period is alike the rows stay; else the room for them is found by a division (`enough`, `too_many`).
use mathlib.Core.Path.{refl}
use mathlib.Core.Logic.{inl, inr}
use Prim.Native.Nat.{◌+◌, ◌-◌, ◌*◌, ◌≤◌, ◌<◌}
use native.Mathlib.Omega.{arith}
use Rattle.table_replay.proofs.Passing.{alike_of, repeated-none, enough, too_many}
use Rattle.table_replay.proofs.periods.pass_periods.Goals as goal
use Rattle.table_replay.proofs.periods.pass_periods.Goals.{Else-periods-eq0, Else-room-tail}

-- they left rows below the last one
repeats-last : (c : Else-periods-eq0) → (let a = c.args in a.mark.tail.rows < a.tail.rows)
repeats-last c = (alike_of c.periods_alike-periods.ensures c.if-periods-eq0.false).more

room-enough : (c : Else-room-tail) → (let a = c.args in a.tail.rows + c.periods_alike-periods.result * (a.tail.rows - a.mark.tail.rows) ≤ a.room)
room-enough c =
    let l = (alike_of c.periods_alike-periods.ensures c.if-periods-eq0.false).more in
    enough (omega arith) (omega arith) (omega (arith, c.if-room-tail.false))

pub returns-then-k-count : goal.returns-then-k-count
returns-then-k-count c =
    record {
      periods = 0;
      repeats = record { alike = inl refl; within = omega arith };
      rows = repeated-none c.args.mark _;
      sample = omega arith;
      roomy = omega arith;
      marks = inl (refl, refl);
    }

pub returns-then-k-mark : goal.returns-then-k-mark
returns-then-k-mark c =
    record {
      periods = 0;
      repeats = record { alike = inl refl; within = omega arith };
      rows = repeated-none c.args.mark _;
      sample = omega arith;
      roomy = omega arith;
      marks = inl (refl, refl);
    }

pub returns-then-periods-eq0 : goal.returns-then-periods-eq0
returns-then-periods-eq0 c =
    record {
      periods = 0;
      repeats = record { alike = inl refl; within = omega arith };
      rows = repeated-none c.args.mark _;
      sample = omega arith;
      roomy = omega arith;
      marks = inr refl;
    }

pub overflow_sub-more : goal.overflow_sub-more
overflow_sub-more c = let l = repeats-last (goal.at.overflow_sub-more c).Else-periods-eq0 in omega arith

pub nonzero_div-room : goal.nonzero_div-room
nonzero_div-room c = let l = repeats-last (goal.at.nonzero_div-room c).Else-periods-eq0 in omega arith

pub returns-then-room-tail : goal.returns-then-room-tail
returns-then-room-tail c =
    let l = repeats-last (goal.at.returns-then-room-tail c).Else-periods-eq0 in
    let found = c.periods_alike-periods in
    record {
      periods = found.result;
      repeats = found.ensures;
      full = too_many (omega arith) (omega arith) (omega (arith, c.if-room-tail.true, c.if-periods-eq0.false));
    }

pub overflow_mul-sample : goal.overflow_mul-sample
overflow_mul-sample c = omega (arith, c.periods_alike-periods.ensures.within)

pub overflow_mul-next : goal.overflow_mul-next
overflow_mul-next c = let f = room-enough (goal.at.overflow_mul-next c).Else-room-tail in omega arith

pub overflow_add-next : goal.overflow_add-next
overflow_add-next c = let f = room-enough (goal.at.overflow_add-next c).Else-room-tail in omega arith

pub returns : goal.returns
returns c =
    let found = c.periods_alike-periods in
    record {
      periods = found.result;
      repeats = found.ensures;
      rows = refl;
      sample = refl;
      roomy = room-enough (goal.at.returns c).Else-room-tail;
      marks = inr refl;
    }
