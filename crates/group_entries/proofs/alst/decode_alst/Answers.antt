-- The check of the length first: `reach` says what it leaves.
use mathlib.Core.Path.{◌≡◌, sym, ◌∙◌}
use Prim.Native.Nat.{◌+◌, ◌-◌, ◌*◌, ◌/◌, ◌%◌}
use native.Mathlib.Omega.{arith}
use lib.Dec.{ltb}
use lib.ListN.{length}
use borrow.Author.Tests.{lt-ltb, le-ltb}
use Rattle.base_fields.specs.Answer.{given, refuse_if, within}
use Rattle.base_fields.specs.Number.{be_at}
use Rattle.group_entries.specs.Decoded.{decode_alst}
use Rattle.group_entries.proofs.Front.{handed, checked, enough}
use Rattle.group_entries.proofs.alst.decode_alst.Goals as goal
use Rattle.group_entries.proofs.alst.decode_alst.Goals.{After-read_u16-roll_count}

-- with four bytes or more, two tests are left
reach :
    (c : After-read_u16-roll_count)
    → let s = c.args.payload.now in
    let end = 4 + 4 * c.read_u16-roll_count.result in
    within s (decode_alst s) ≡
    refuse_if (ltb (length s) end) 44
    (refuse_if (ltb 0 ((length s - end) % 4)) 45
    (given
    (record {
      roll_count_of = c.read_u16-roll_count.result;
      first_output = be_at 2 s 2;
      pairs = (length s - end) / 4;
    })))
unfolding decode_alst
reach c = sym (checked c.check_length.ensures _ c.in_ok-check_length.was) ∙ simp (← c.read_u16-roll_count.ensures.0)

pub returns-in_err-check_length : goal.returns-in_err-check_length
unfolding decode_alst
returns-in_err-check_length c = rw (handed c.from_residual.ensures) (checked c.check_length.ensures _ c.in_err-check_length.was)

pub read_u16-roll_count-requires : goal.read_u16-roll_count-requires
read_u16-roll_count-requires c = omega (arith, (enough c.check_length.ensures c.in_ok-check_length.was).0)

pub returns-then-payload-end : goal.returns-then-payload-end
returns-then-payload-end c = simp (reach (goal.at.returns-then-payload-end c).After-read_u16-roll_count, lt-ltb _ _ c.if-payload-end.true)

pub returns-then-tail-gt0 : goal.returns-then-tail-gt0
returns-then-tail-gt0 c = simp (reach (goal.at.returns-then-tail-gt0 c).After-read_u16-roll_count, le-ltb _ _ c.if-payload-end.false, lt-ltb _ _ c.if-tail-gt0.true)

pub overflow_cast-result : goal.overflow_cast-result
overflow_cast-result c =
    omega (arith, (enough c.check_length.ensures c.in_ok-check_length.was).1)

pub returns : goal.returns
returns c = simp (reach (goal.at.returns c).After-read_u16-roll_count, le-ltb _ _ c.if-payload-end.false, le-ltb _ _ c.if-tail-gt0.false, ← c.read_u16.ensures.0)
