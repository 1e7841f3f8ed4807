-- Each way out by the checks passed before it; `placed` is where the count stands, by what has_parameter answered.
use mathlib.Core.Path.{◌≡◌, ap, sym, ◌∙◌}
use mathlib.Core.Bool.{Bool}
use Prim.Native.Nat.{ℕ, ◌≤◌}
use native.Mathlib.Omega.{arith}
use borrow.Author.Tests.{lt-ltb, le-ltb}
use lib.ListN.{length}
use Rattle.base_fields.specs.Answer.{choose}
use Rattle.table_front.specs.Front.{count_place}
use Rattle.table_front.proofs.read_front.Goals as goal
use Rattle.table_front.proofs.read_front.Goals.{After-count_place-place}

placed : (c : After-count_place-place) → (let a = c.args in count_place a.kind a.s.now ≡ c.count_place-place.result)
placed c = ap (λ (b : Bool). choose {A = ℕ} b 12 8) (sym c.has_parameter-parameter.ensures) ∙ sym c.count_place-place.ensures.0

pub returns-then-s-gt-INPUT_LIMIT : goal.returns-then-s-gt-INPUT_LIMIT
returns-then-s-gt-INPUT_LIMIT c = simp (lt-ltb _ _ c.if-s-gt-INPUT_LIMIT.true)

pub returns-then-s-lt8 : goal.returns-then-s-lt8
returns-then-s-lt8 c = simp (le-ltb _ _ c.if-s-gt-INPUT_LIMIT.false, lt-ltb _ _ c.if-s-lt8.true)

pub returns-then-s-place-2 : goal.returns-then-s-place-2
returns-then-s-place-2 c =
    rw (placed (goal.at.returns-then-s-place-2 c).After-count_place-place) (simp (le-ltb _ _ c.if-s-gt-INPUT_LIMIT.false, le-ltb _ _ c.if-s-lt8.false, lt-ltb _ _ c.if-s-place-2.true))

pub returns-then-s-place : goal.returns-then-s-place
returns-then-s-place c =
    rw (placed (goal.at.returns-then-s-place c).After-count_place-place) (simp (le-ltb _ _ c.if-s-gt-INPUT_LIMIT.false, le-ltb _ _ c.if-s-lt8.false, le-ltb _ _ c.if-s-place-2.false, lt-ltb _ _ c.if-s-place.true))

pub parameter_value-requires : goal.parameter_value-requires
parameter_value-requires c = rw (← c.count_place-place.ensures.0) (omega arith)

pub returns : goal.returns
returns c =
    let there : c.count_place-place.result ≤ length c.args.s.now = omega arith in
    let told = c.has_parameter-parameter.ensures in
    rw (placed (goal.at.returns c).After-count_place-place, ← told)
    (simp (
      le-ltb _ _ c.if-s-gt-INPUT_LIMIT.false,
      le-ltb _ _ c.if-s-lt8.false,
      le-ltb _ _ there,
      le-ltb _ _ c.if-s-place.false,
      c.read_u32.ensures.0,
      c.parameter_value.ensures,
      c.read_u32-2.ensures.0,
    ))
