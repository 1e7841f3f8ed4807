-- What was found at the period's end picks the case of `Later`; without a whole period since the mark nothing moves.
use mathlib.Core.Path.{◌≡◌, refl}
use mathlib.Core.Logic.{inl, inr}
use Prim.Native.Nat.{ℕ, ◌+◌, ◌-◌, ◌*◌, ◌/◌, ◌≤◌}
use native.Mathlib.Nat.{div-mul-le_self, zero-mul, add-zero}
use native.Mathlib.Omega.{arith}
use Rattle.std.specs.Prelude.{Option, Some, None}
use Rattle.listing_stretches.specs.Passed.{Passes, LikePeriod, JoinedPeriod, GivesRepeated, GivesPassed}
use Rattle.listing_stretches.specs.declared.Hand.{Hand}
use Rattle.listing_stretches.specs.declared.Mark.{Mark}
use Rattle.listing_stretches.proofs.periods.pass_periods.Goals as goal

whole : (k length count : ℕ) → k ≤ count → k + (count - k) / length * length ≤ count
whole k length count h = omega (arith, div-mul-le_self (count - k) length)

-- nothing moves
stays : (mark : Mark) (hand : Hand) (k length count limit : ℕ) (to : Mark) → k ≤ count → hand.at ≤ limit → (to ≡ mark) → Passes mark hand k length count limit hand k to
stays mark hand k length count limit to h l e =
    record {
      periods = 0;
      within = rw (zero-mul length) (omega arith);
      sample = rw (zero-mul length, add-zero k) refl;
      later = inl (refl, refl);
      near = l;
      marks = inl (refl, refl, e);
    }

-- a new mark, and nothing moves
anew : (mark : Mark) (hand : Hand) (k length count limit : ℕ) → k ≤ count → hand.at ≤ limit → Passes mark hand k length count limit hand k (record { sample = k; hand = hand })
anew mark hand k length count limit h l =
    record {
      periods = 0;
      within = rw (zero-mul length) (omega arith);
      sample = rw (zero-mul length, add-zero k) refl;
      later = inl (refl, refl);
      near = l;
      marks = inr refl;
    }

-- periods like the last one
again : (mark : Mark) (hand : Hand) (k length count limit : ℕ) → k ≤ count → LikePeriod mark hand k length
    → (r : Option (Hand × ℕ × Mark)) → GivesRepeated hand (hand.at - mark.hand.at) k length ((count - k) / length) limit r → GivesPassed mark hand k length count limit r
again mark hand k length count limit h like (Some (next, j, to)) g =
    record {
      periods = (count - k) / length;
      within = whole k length count h;
      sample = g.1;
      later = inr (inl (like, g.0));
      near = g.3;
      marks = inr g.2;
    }
again mark hand k length count limit h like None g = record { periods = (count - k) / length; within = whole k length count h; like = like; over = g }

pub returns-then-k-mark : goal.returns-then-k-mark
returns-then-k-mark c =
    let a = c.args in
    stays a.mark a.hand a.k a.length a.count a.limit a.mark (omega (arith, c.requires)) (omega (arith, c.requires)) refl

pub repeat_periods-requires : goal.repeat_periods-requires
repeat_periods-requires c =
    let a = c.args in
    (omega (arith, c.requires), omega (arith, c.requires, c.ranges.count, whole a.k a.length a.count (omega (arith, c.requires))))

pub returns-then-hand-marked-2 : goal.returns-then-hand-marked-2
returns-then-hand-marked-2 c =
    let a = c.args in
    let like : LikePeriod a.mark a.hand a.k a.length =
    record {
      period = omega (arith, c.requires, c.if-k-mark.false);
      samples = c.if-hand-marked.true;
      index = c.if-hand-marked-2.true;
    }
    in
    again a.mark a.hand a.k a.length a.count a.limit (omega (arith, c.requires)) like c.repeat_periods.result c.repeat_periods.ensures

pub lengthen-next-requires : goal.lengthen-next-requires
lengthen-next-requires c =
    let a = c.args in
    (omega (arith, c.requires), omega (arith, c.requires, c.ranges.count, whole a.k a.length a.count (omega (arith, c.requires))))

pub overflow_mul-sample : goal.overflow_mul-sample
overflow_mul-sample c =
    let a = c.args in
    omega (arith, c.requires, c.ranges.count, whole a.k a.length a.count (omega (arith, c.requires)))

pub overflow_add-sample : goal.overflow_add-sample
overflow_add-sample c =
    let a = c.args in
    omega (arith, c.requires, c.ranges.count, whole a.k a.length a.count (omega (arith, c.requires)))

pub returns-then-hand-marked-3 : goal.returns-then-hand-marked-3
returns-then-hand-marked-3 c =
    let a = c.args in
    let joined : JoinedPeriod a.mark a.hand a.k a.length =
    record {
      period = omega (arith, c.requires, c.if-k-mark.false);
      some = c.if-marked-gt0.true;
      at = c.if-hand-marked-3.true;
    }
    in
    record {
      periods = (a.count - a.k) / a.length;
      within = whole a.k a.length a.count (omega (arith, c.requires));
      sample = refl;
      later = inr (inr (joined, c.lengthen-next.ensures));
      near = rw c.lengthen-next.ensures (omega (arith, c.requires));
      marks = inr refl;
    }

pub returns-else-hand-marked-3 : goal.returns-else-hand-marked-3
returns-else-hand-marked-3 c =
    let a = c.args in
    anew a.mark a.hand a.k a.length a.count a.limit (omega (arith, c.requires)) (omega (arith, c.requires))

pub returns-else-marked-gt0 : goal.returns-else-marked-gt0
returns-else-marked-gt0 c =
    let a = c.args in
    anew a.mark a.hand a.k a.length a.count a.limit (omega (arith, c.requires)) (omega (arith, c.requires))
