-- The last turn of a pattern that has a position, among the pattern's first samples.
use mathlib.Core.Path.{◌≡◌, ap, ◌∙◌}
use Prim.Native.Nat.{ℕ, zero, suc, ◌+◌, ◌-◌, ◌*◌, ◌/◌, ◌%◌, ◌≤◌, ◌<◌}
use native.Mathlib.Nat.{add-zero, suc-mul, mod-lt, div-add-mod', div-eq_of_lt, mul-add-div_right}
use native.Mathlib.Decide.{dec_lt}
use native.Mathlib.Omega.{arith}
use borrow.Author.Tests.{lt-ltb, le-ltb}
use lib.Dec.{ltb}
use Rattle.base_fields.specs.Answer.{choose}

module _ (len position : ℕ) (fits : position < len) where
  -- whole turns, and fewer samples than a turn behind them
  begins-at : (q r : ℕ) → r < len → (q * len + r) / len * len ≡ q * len
  begins-at q r h = ap (λ (k : ℕ). k * len) (mul-add-div_right {m = len} (omega arith) q r ∙ rw (div-eq_of_lt h) (add-zero q))

  -- of n samples, `whole` of them in whole turns: no turn has the position, or the last one begins so far back from the turn that is cut
  pub record LastTurn (n whole back : ℕ) : Type 0 where
    pub none : whole < back → n ≤ position
    pub some : back ≤ whole → (position < n) × ((n - 1 - position) / len * len ≡ whole - back)

  cut-turn : (q r : ℕ) → r < len → LastTurn (q * len + r) (q * len) (choose (ltb position r) 0 len)
  cut-turn q r h =
      elim (dec_lt position r) [
        | yes b ↦
            let e : q * len + r - 1 - position ≡ q * len + (r - 1 - position) = omega arith in
            let z : q * len - 0 ≡ q * len = omega arith in
            rw (lt-ltb position r b) (record { none = λ l. absurd (omega (arith, l)); some = λ l. (omega arith, rw (e, z) (begins-at q (r - 1 - position) (omega arith))) })
        | no b ↦ rw (le-ltb position r (omega arith)) (before q (omega arith))
      ]
    where
      before : (q : ℕ) → r ≤ position → LastTurn (q * len + r) (q * len) len
      before zero b = record { none = λ l. omega arith; some = λ l. absurd (omega (arith, l)) }
      before (suc q) b =
          let e : suc q * len + r - 1 - position ≡ q * len + (len + r - 1 - position) = omega (arith, suc-mul q len) in
          let z : suc q * len - len ≡ q * len = omega (arith, suc-mul q len) in
          record { none = λ l. absurd (omega (arith, l, suc-mul q len)); some = λ l. (omega (arith, suc-mul q len), rw (e, z) (begins-at q (len + r - 1 - position) (omega arith))) }

  -- of the first n samples
  pub last_turn : (n : ℕ) {back : ℕ} → back ≡ choose (ltb position (n % len)) 0 len → LastTurn n (n - n % len) back
  last_turn n e =
      let whole : n / len * len ≡ n - n % len = omega (arith, div-add-mod' n len) in
      rw e (rw (div-add-mod' n len, whole) at (cut-turn (n / len) (n % len) (mod-lt n (omega arith))))
