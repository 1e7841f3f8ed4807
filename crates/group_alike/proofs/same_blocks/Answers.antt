use mathlib.Core.Path.{◌≡◌}
use Prim.Native.Nat.{ℕ, zero-le}
use native.Mathlib.Decide.{dec_lt}
use native.Mathlib.Omega.{arith}
use borrow.Author.Rules.{rules}
use Rattle.group_alike.proofs.Over.{over-join}
use Rattle.group_alike.proofs.Differing.{gives_same}
use Rattle.group_alike.proofs.same_blocks.Goals as goal

pub loop-i-init : goal.loop-i-init
loop-i-init c = (search rules, λ k h l. absurd (omega arith))

pub returns-then-differing_128-ne0 : goal.returns-then-differing_128-ne0
returns-then-differing_128-ne0 c =
    record {
      same = λ e. let z : ◌≡◌ {A = ℕ} 0 1 = cc in absurd (omega arith);
      different = λ e o. c.if-differing_128-ne0.true (c.differing_128.ensures.none (λ k h l. o k zero-le (omega arith)));
    }

pub loop-i-preserved : goal.loop-i-preserved
loop-i-preserved c =
    let s = c.args in
    let block = c.differing_128.ensures.same c.if-differing_128-ne0.false in
    (search rules, over-join s.a.now s.b.now 0 c.loop-i.i 128 c.loop-i.invariant.1 (λ k h l. block k (omega arith) (omega arith)))

pub returns : goal.returns
returns c =
    let block = c.differing_128-2.ensures in
    gives_same _ _ _ record {
      same = λ e k h l. elim (dec_lt k c.loop-i.i) [
        | yes m ↦ c.loop-i.invariant.1 k h (omega arith)
        | no m ↦ block.same e k (omega arith) (omega arith)
      ];
      none = λ o. block.none (λ k h l. o k zero-le (omega arith));
    }
