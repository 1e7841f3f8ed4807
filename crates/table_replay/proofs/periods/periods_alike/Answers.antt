-- 0 where a test on the way fails; else all whole periods that are left.
use mathlib.Core.Path.{refl}
use mathlib.Core.Logic.{inl, inr}
use Prim.Native.Nat.{◌-◌}
use native.Mathlib.Nat.{div-mul-le_self}
use native.Mathlib.Omega.{arith}
use Rattle.table_replay.proofs.periods.periods_alike.Goals as goal

pub returns-then-before-eq0 : goal.returns-then-before-eq0
returns-then-before-eq0 c = record { alike = inl refl; within = omega arith }

pub returns-then-tail-before : goal.returns-then-tail-before
returns-then-tail-before c = record { alike = inl refl; within = omega arith }

pub returns-then-tail-before-2 : goal.returns-then-tail-before-2
returns-then-tail-before-2 c = record { alike = inl refl; within = omega arith }

pub returns-then-tail-before-3 : goal.returns-then-tail-before-3
returns-then-tail-before-3 c = record { alike = inl refl; within = omega arith }

pub returns : goal.returns
returns c =
    let a = c.args in
    record {
      alike = inr (record {
        period = c.requires.2;
        some = omega arith;
        more = omega arith;
        count = omega (arith, c.if-tail-before-2.false);
        index = omega (arith, c.if-tail-before-3.false);
      });
      within = omega (arith, div-mul-le_self (a.count - a.k) a.length);
    }
