-- The check of the length and the count of points first: `reach` says what they leave.
use mathlib.Core.Path.{◌≡◌, sym, ◌∙◌}
use Prim.Native.Nat.{◌+◌}
use lib.Dec.{ltb}
use lib.ListN.{length}
use borrow.Author.Tests.{lt-ltb, le-ltb, eq-eqb, ne_eqb}
use Rattle.base_fields.specs.Answer.{given, refuse_if, within}
use Rattle.base_fields.specs.Number.{be_at}
use Rattle.group_entries.specs.Decoded.{decode_rash}
use Rattle.group_entries.proofs.Front.{handed, checked, enough}
use Rattle.group_entries.proofs.rash.decode_rash.Goals as goal
use Rattle.group_entries.proofs.rash.decode_rash.Goals.{After-rash_points_end-end}

-- with a point count that is not 0, two tests are left
reach :
    (c : After-rash_points_end-end)
    → let s = c.args.payload.now in
    let end = c.rash_points_end-end.result in
    within s (decode_rash s) ≡
    refuse_if (ltb (length s) end) 42
    (refuse_if (ltb (length s) (end + 9)) 43
    (given
    (record {
      points = c.read_u16-count.result;
      maximum = be_at 4 s end;
      minimum = be_at 4 s (end + 4);
      priority = be_at 1 s (end + 8);
    })))
unfolding decode_rash
reach c =
    sym (checked c.check_length.ensures _ c.in_ok-check_length.was)
    ∙ simp (← c.read_u16-count.ensures.0, ne_eqb _ _ c.if-count-eq0.false, ← c.rash_points_end-end.ensures.0)

pub returns-in_err-check_length : goal.returns-in_err-check_length
unfolding decode_rash
returns-in_err-check_length c = rw (handed c.from_residual.ensures) (checked c.check_length.ensures _ c.in_err-check_length.was)

pub read_u16-count-requires : goal.read_u16-count-requires
read_u16-count-requires c = (enough c.check_length.ensures c.in_ok-check_length.was).0

pub returns-then-count-eq0 : goal.returns-then-count-eq0
unfolding decode_rash
returns-then-count-eq0 c =
    sym (sym (checked c.check_length.ensures _ c.in_ok-check_length.was) ∙ simp (← c.read_u16-count.ensures.0, eq-eqb _ _ c.if-count-eq0.true))

pub returns-then-payload-end : goal.returns-then-payload-end
returns-then-payload-end c = simp (reach (goal.at.returns-then-payload-end c).After-rash_points_end-end, lt-ltb _ _ c.if-payload-end.true)

pub returns-then-payload-end-2 : goal.returns-then-payload-end-2
returns-then-payload-end-2 c = simp (reach (goal.at.returns-then-payload-end-2 c).After-rash_points_end-end, le-ltb _ _ c.if-payload-end.false, lt-ltb _ _ c.if-payload-end-2.true)

pub returns : goal.returns
returns c =
    simp (reach (goal.at.returns c).After-rash_points_end-end, le-ltb _ _ c.if-payload-end.false, le-ltb _ _ c.if-payload-end-2.false, ← c.read_u32.ensures.0, ← c.read_u32-2.ensures.0, ← c.read_u8.ensures.0)
