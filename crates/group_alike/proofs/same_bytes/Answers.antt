use mathlib.Core.Path.{◌≡◌}
use Prim.Native.Nat.{ℕ, zero-le}
use native.Mathlib.Omega.{arith}
use Rattle.group_alike.proofs.Over.{over-join}
use Rattle.group_alike.proofs.same_bytes.Goals as goal

pub returns-then-n-ge128 : goal.returns-then-n-ge128
returns-then-n-ge128 c = c.same_blocks.ensures

pub returns-then-n-ge8 : goal.returns-then-n-ge8
returns-then-n-ge8 c = c.same_ends.ensures

pub returns-then-n-ge4 : goal.returns-then-n-ge4
returns-then-n-ge4 c = c.same_fours.ensures

pub loop-i-init : goal.loop-i-init
loop-i-init c = λ k h l. absurd (omega arith)

pub returns-then-a-i : goal.returns-then-a-i
returns-then-a-i c =
    record {
      same = λ e. let z : ◌≡◌ {A = ℕ} 0 1 = cc in absurd (omega arith);
      different = λ e o. c.if-a-i.true (o c.loop-i.i zero-le (omega arith));
    }

pub loop-i-preserved : goal.loop-i-preserved
loop-i-preserved c =
    let s = c.args in
    let i = c.loop-i.i in
    over-join s.a.now s.b.now 0 i 1 c.loop-i.invariant (λ k h l. let z : k ≡ i = omega arith in rw z c.if-a-i.false)

pub returns : goal.returns
returns c =
    record {
      same = λ e k h l. c.loop-i.invariant k h (omega arith);
      different = λ e o. let z : ◌≡◌ {A = ℕ} 0 1 = cc in absurd (omega arith);
    }
