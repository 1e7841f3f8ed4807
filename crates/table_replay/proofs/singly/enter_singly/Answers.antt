use Rattle.std.specs.Prelude.{Option, Some}
use mathlib.Core.Path.{◌≡◌, sym, ap, subst, ◌∙◌}
use Prim.Native.Nat.{ℕ, ◌+◌, ◌-◌, ◌*◌, ◌%◌, ◌≤◌, ◌<◌}
use native.Mathlib.Nat.{mod-lt, lt_trans}
use native.Mathlib.Omega.{arith}
use Rattle.table_patterns.proofs.Runs.{field_end}
use Rattle.table_replay.specs.Enter.{GivesSingle}
use Rattle.table_replay.specs.declared.enter.Tail.{Tail}
use Rattle.table_replay.proofs.OneByOne.{next-onward, next_place, turn-index, singly-none, singly-on}
use Rattle.table_replay.proofs.singly.enter_singly.Goals as goal
use Rattle.table_replay.proofs.singly.enter_singly.Goals.{After-last_of_period-last, At-loop-sample, In-Some}

-- the field of a turn ends within the payload
turn_end : (c : After-last_of_period-last) (i : ℕ) → (let p = c.args.pattern in i < p.length → p.indices + p.width * i + p.width ≤ p.indices + p.width * p.length)
turn_end c i h = let p = c.args.pattern in field_end p.width p.indices i p.length h

-- a sample before the last has its turn
turn_below : (c : At-loop-sample) → c.loop-sample.sample < c.last_of_period-last.result → (let a = c.args in let p = a.pattern in let k = a.state.sample in k % p.length + (c.loop-sample.sample - k) < p.length)
turn_below c h = let l = c.last_of_period-last.ensures in let i = c.loop-sample.invariant in omega (arith, l.period, l.onward, i.0)

abbrev Told : In-Some → Option Tail → Type 0
Told c r = GivesSingle c.args.room c.loop-sample.tail c.read_index-index.result r

next-tail : (c : In-Some) → Told c (Some c.in-Some.next)
next-tail c = subst (λ (r : Option Tail). Told c r) c.in-Some.is c.enter_single.ensures

pub returns-then-pattern-state : goal.returns-then-pattern-state
returns-then-pattern-state c = singly-none _ _ _

pub returns-then-turn-eq0 : goal.returns-then-turn-eq0
returns-then-turn-eq0 c = singly-none _ _ _

pub last_of_period-last-requires : goal.last_of_period-last-requires
last_of_period-last-requires c =
    (omega arith, mod-lt c.args.state.sample c.requires.some)

pub overflow_mul-at : goal.overflow_mul-at
overflow_mul-at c = let h = c.requires in omega (arith, turn_end (goal.at.overflow_mul-at c).After-last_of_period-last (c.args.state.sample % c.args.pattern.length) (mod-lt c.args.state.sample h.some), h.inside, h.short)

pub overflow_add-at : goal.overflow_add-at
overflow_add-at c = let h = c.requires in omega (arith, turn_end (goal.at.overflow_add-at c).After-last_of_period-last (c.args.state.sample % c.args.pattern.length) (mod-lt c.args.state.sample h.some), h.inside, h.short)

pub loop-sample-init : goal.loop-sample-init
loop-sample-init c =
    let a = c.args in
    let turn = a.state.sample % a.pattern.length in
    let z : turn ≡ turn + (a.state.sample - a.state.sample) = omega arith in
    (omega arith, ap (λ (n : ℕ). a.pattern.indices + a.pattern.width * n) z, singly-none _ _ _)

pub read_index-index-requires : goal.read_index-index-requires
read_index-index-requires c =
    let h = c.requires in
    let e = c.loop-sample.invariant.1 in
    (h, omega (arith, e), omega (arith, e, h.inside, turn_end (goal.at.read_index-index-requires c).After-last_of_period-last _ (turn_below (goal.at.read_index-index-requires c).At-loop-sample c.loop-sample-test.true)))

pub returns-in-None : goal.returns-in-None
returns-in-None c = c.loop-sample.invariant.2

pub overflow_add-at-in-loop-sample : goal.overflow_add-at-in-loop-sample
overflow_add-at-in-loop-sample c =
    let h = c.requires in
    omega (arith, c.loop-sample.invariant.1, h.inside, h.short, turn_end (goal.at.overflow_add-at-in-loop-sample c).After-last_of_period-last _ (turn_below (goal.at.overflow_add-at-in-loop-sample c).At-loop-sample c.loop-sample-test.true))

pub loop-sample-preserved : goal.loop-sample-preserved
loop-sample-preserved c =
    let l = c.last_of_period-last.ensures in
    let i = c.loop-sample.invariant in
    let a = c.args in
    let k = c.loop-sample.sample in
    let entered = next-tail (goal.at.loop-sample-preserved c).In-Some in
    let index = turn-index a.s.now a.pattern a.state.sample k _ c.requires.some i.0 (turn_below (goal.at.loop-sample-preserved c).At-loop-sample c.loop-sample-test.true) i.1 ∙ sym c.read_index-index.ensures.0 in (
      next-onward _ _ i.0,
      next_place a.pattern a.state.sample k _ i.0 i.1,
      singly-on _ _ _ _ _ (lt_trans c.loop-sample-test.true l.within) index entered.enters i.2,
    )

pub returns : goal.returns
returns c =
    let e : c.last_of_period-last.result ≡ c.loop-sample.sample = omega (arith, c.last_of_period-last.ensures.onward) in
    rw e c.loop-sample.invariant.2
