-- The bytes of all periods fit below the limit, by a division; a period may add none.
use mathlib.Core.Path.{◌≡◌, refl}
use Prim.Native.Nat.{ℕ, ◌-◌, ◌*◌, ◌/◌, ◌≤◌}
use native.Mathlib.Nat.{le-div_iff_mul-le, div-lt_iff_lt-mul, mul-zero}
use native.Mathlib.Omega.{arith}
use Rattle.listing_stretches.proofs.periods.repeat_periods.Goals as goal
use Rattle.listing_stretches.proofs.periods.repeat_periods.Goals.{Joined-added-gt0, then-added-gt0+else-limit-hand, else-added-gt0}

none-added : (n d : ℕ) → d ≤ 0 → n * d ≤ 0
none-added n d h = let e : d ≡ 0 = omega arith in rw (e, mul-zero n) (omega arith)

few : (c : Joined-added-gt0) → c.args.periods * c.args.added ≤ c.args.limit - c.args.hand.at
few c =
    let a = c.args in
    elim c.if-added-gt0.branch [
      | then-added-gt0+else-limit-hand w ↦ let t : a.periods ≤ (a.limit - a.hand.at) / a.added = omega (arith, w.if-limit-hand.false) in (le-div_iff_mul-le w.if-added-gt0.true).0 t
      | else-added-gt0 w ↦ omega (arith, none-added a.periods a.added w.if-added-gt0.false)
    ]

pub returns-then-limit-hand : goal.returns-then-limit-hand
returns-then-limit-hand c =
    omega (arith, (div-lt_iff_lt-mul c.if-added-gt0.true).0 c.if-limit-hand.true, c.requires)

pub overflow_mul-next : goal.overflow_mul-next
overflow_mul-next c = omega (arith, few c)

pub overflow_add-next : goal.overflow_add-next
overflow_add-next c = omega (arith, few (goal.at.overflow_add-next c).Joined-added-gt0)

pub returns : goal.returns
returns c = (refl, refl, refl, omega (arith, few (goal.at.returns c).Joined-added-gt0, c.requires))
