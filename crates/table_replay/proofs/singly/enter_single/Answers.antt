-- A sample that joins the last row or begins one, as `enter_run` has it of a run of one.
use mathlib.Core.Path.{sym}
use native.Mathlib.Omega.{arith}
use Rattle.table_replay.proofs.Entering.{single-joins, single-begins}
use Rattle.table_replay.proofs.singly.enter_single.Goals as goal

pub returns-then-tail-index : goal.returns-then-tail-index
returns-then-tail-index c =
    let a = c.args in
    record {
      enters = sym (single-joins a.room a.tail a.index (omega (arith, c.if-tail-eq0.false)) c.if-tail-index.true (omega (arith, c.if-tail-gt-SHORT.false)));
      some = omega (arith, c.if-tail-eq0.false);
      roomy = λ h. h;
    }

pub returns : goal.returns
returns c =
    let a = c.args in
    record {
      enters = sym (single-begins a.room a.tail a.index c.if-tail-index.false (omega (arith, c.if-room-tail.false)));
      some = omega arith;
      roomy = λ h. omega (arith, c.if-room-tail.false);
    }
