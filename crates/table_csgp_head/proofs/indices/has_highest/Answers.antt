use mathlib.Core.Path.{◌≡◌, sym, ◌∙◌}
use Prim.Native.Nat.{ℕ, ◌+◌, ◌-◌, ◌*◌, ◌/◌, ◌%◌, ◌^◌}
use native.Mathlib.Omega.{arith}
use borrow.Author.Count.{below_more}
use Rattle.base_fields.specs.Number.{bit_at}
use Rattle.table_csgp_head.proofs.Large.{highest-at}
use Rattle.table_csgp_head.proofs.indices.has_highest.Goals as goal
use Rattle.table_csgp_head.proofs.indices.has_highest.Goals.{After-read_u8}

-- the bit that is looked at
highest : (c : After-read_u8) →
    (let a = c.args in
    c.read_u8.result / 2 ^ (7 - a.place % 8) % 2 ≡ bit_at a.s.now (a.place + 32 * c.loop-i.i))
highest c =
    let a = c.args in
    rw c.read_u8.ensures.0 (highest-at a.s.now a.place c.loop-i.i c.loop-i.at c.loop-i.invariant.0)

pub loop-i-init : goal.loop-i-init
loop-i-init c = (omega arith, omega arith, λ j l. absurd (omega arith))

pub returns-then-read_u8-behind-eq1 : goal.returns-then-read_u8-behind-eq1
returns-then-read_u8-behind-eq1 c = (c.loop-i.i, c.loop-i-test.true, sym (highest (goal.at.returns-then-read_u8-behind-eq1 c).After-read_u8) ∙ c.if-read_u8-behind-eq1.true)

pub loop-i-preserved : goal.loop-i-preserved
loop-i-preserved c =
    let a = c.args in
    let i = c.loop-i.invariant in
    let clear : bit_at a.s.now (a.place + 32 * c.loop-i.i) ≡ 0 = omega (arith, highest (goal.at.loop-i-preserved c).After-read_u8, c.if-read_u8-behind-eq1.false) in (
      omega (arith, i.0),
      omega (arith, c.loop-i-test.true),
      below_more (λ (j : ℕ). bit_at a.s.now (a.place + 32 * j) ≡ 0) c.loop-i.i i.2 clear,
    )

pub returns : goal.returns
returns c = λ j l. c.loop-i.invariant.2 j (omega (arith, c.loop-i-test.false))
