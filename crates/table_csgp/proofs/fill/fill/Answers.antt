use Rattle.std.specs.Prelude.{Result, Ok}
use mathlib.Core.Path.{◌≡◌, refl, ap, sym, subst, ◌∙◌}
use Prim.Native.Nat.{ℕ, ◌/◌}
use native.Mathlib.Omega.{arith}
use lib.ListN.{length}
use Rattle.base_fields.specs.declared.refusal.Refusal.{Refusal}
use Rattle.base_fields.proofs.Answers.{refused-given}
use mathlib.Core.List.{List}
use Rattle.table_csgp.specs.Rows.{rows_for}
use Rattle.table_rows.specs.Row.{Row, record_numbers, records_in}
use Rattle.table_patterns.specs.Place.{pattern_in}
use Rattle.table_replay.specs.Step.{NextRun, StateOf, Steps, Refuses, GivesStep}
use Rattle.table_replay.specs.Within.{FillingWithin}
use Rattle.table_replay.specs.declared.step.ReplayState.{ReplayState}
use Rattle.table_replay.proofs.Stepping.{state-room, next-run}
use Rattle.table_replay.proofs.Within.{filling-first, filling-end, filling-in, filling-out, filling_step, within-refused}
use Rattle.table_csgp_head.specs.declared.PatternsAt.{PatternsAt}
use Rattle.table_csgp_head.proofs.Ahead.{ahead_step}
use Rattle.table_csgp.proofs.Ahead.{behind, Reached, rows-first, reached, none-coming}
use Rattle.table_csgp.proofs.fill.fill.Goals as goal
use Rattle.table_csgp.proofs.fill.fill.Goals.{After-pattern_at-pattern, After-replay_step, After-run_at-run, At-loop-state, In-Ok}

-- the pattern that was read
pattern-reached : (c : After-pattern_at-pattern) → (let a = c.args in Reached a.s.now a.head c.loop-here.here c.pattern_at-pattern.result)
pattern-reached c = reached _ _ _ _ c.requires.0.fixed c.loop-here-test.true c.loop-here.invariant.1 c.pattern_at-pattern.ensures

-- the rows within it
abbrev Filled : At-loop-state → Type 0
Filled c =
    let a = c.args in
    let room = records_in a.rows.now in
    let pattern = c.pattern_at-pattern.result in
    FillingWithin (rows_for a.s.now room) room (pattern_in a.s.now pattern) (behind a.s.now a.head c.loop-here.here pattern) c.loop-state.state a.rows.now c.loop-state.rows

filled : (c : At-loop-state) → Filled c
filled c =
    let r : Reached c.args.s.now c.args.head c.loop-here.here c.pattern_at-pattern.result = reached _ _ _ _ c.requires.0.fixed c.loop-here-test.true c.loop-here.invariant.1 c.pattern_at-pattern.ensures in
    c.loop-state.invariant.0 _ (rw c.pattern_start-state.ensures (filling-in _ (rw r.samples at c.loop-here.invariant.0)))

same : (c : At-loop-state) → length c.loop-state.rows ≡ length c.args.rows.now
same c = c.loop-state.invariant.1 ∙ c.loop-here.invariant.2

-- the run that is read of it
next : (c : After-run_at-run) →
    (let pattern = c.pattern_at-pattern.result in
    NextRun (pattern_in c.args.s.now pattern) pattern c.loop-state.state c.run_at-run.result)
next c =
    let r : Reached c.args.s.now c.args.head c.loop-here.here c.pattern_at-pattern.result = reached _ _ _ _ c.requires.0.fixed c.loop-here-test.true c.loop-here.invariant.1 c.pattern_at-pattern.ensures in
    next-run _ _ _ r.stands c.run_at-run.ensures

-- what the step told
abbrev Told : After-replay_step → Result (ReplayState × ℕ) Refusal → Type 0
Told c r =
    let a = c.args in
    GivesStep (pattern_in a.s.now c.pattern_at-pattern.result) (records_in a.rows.now) c.loop-state.state r

went : (c : After-replay_step) → (let a = c.args in NextRun (pattern_in a.s.now c.pattern_at-pattern.result) c.pattern_at-pattern.result c.loop-state.state c.run_at-run.result)
    → (r : Result (ReplayState × ℕ) Refusal) → c.replay_step.result ≡ r → Told c r
went c n r e = subst (λ (x : Result (ReplayState × ℕ) Refusal). Told c x) e (c.replay_step.ensures _ n)

never : (c : At-loop-state) {code : ℕ} →
    (let a = c.args in
    Refuses (pattern_in a.s.now c.pattern_at-pattern.result) (records_in a.rows.now) c.loop-state.state code) → ⊥
never c f =
    let r : Reached c.args.s.now c.args.head c.loop-here.here c.pattern_at-pattern.result = reached _ _ _ _ c.requires.0.fixed c.loop-here-test.true c.loop-here.invariant.1 c.pattern_at-pattern.ensures in
    let filling : Filled c = c.loop-state.invariant.0 _ (rw c.pattern_start-state.ensures (filling-in _ (rw r.samples at c.loop-here.invariant.0))) in
    refused-given (sym (within-refused _ filling.within f) ∙ c.requires.1.1)

-- the step on, from the rows so far
goes : (c : In-Ok) →
    (let a = c.args in
    GivesStep (pattern_in a.s.now c.pattern_at-pattern.result) (records_in a.rows.now) c.loop-state.state (Ok (c.in-Ok.next, c.in-Ok.stood)))
goes c =
    let a = c.args in
    let r : Reached a.s.now a.head c.loop-here.here c.pattern_at-pattern.result = reached _ _ _ _ c.requires.0.fixed c.loop-here-test.true c.loop-here.invariant.1 c.pattern_at-pattern.ensures in
    let n = next-run _ _ _ r.stands c.run_at-run.ensures in
    subst (λ (x : Result (ReplayState × ℕ) Refusal). GivesStep (pattern_in a.s.now c.pattern_at-pattern.result) (records_in a.rows.now) c.loop-state.state x) c.in-Ok.is (c.replay_step.ensures _ n)

steps : (c : In-Ok) (rows : List Row) →
    (let a = c.args in
    StateOf (pattern_in a.s.now c.pattern_at-pattern.result) (records_in a.rows.now) rows c.loop-state.state
    → Steps (pattern_in a.s.now c.pattern_at-pattern.result) (records_in a.rows.now) rows c.loop-state.state c.in-Ok.next c.in-Ok.stood)
steps c =
    let a = c.args in
    let r : Reached a.s.now a.head c.loop-here.here c.pattern_at-pattern.result = reached _ _ _ _ c.requires.0.fixed c.loop-here-test.true c.loop-here.invariant.1 c.pattern_at-pattern.ensures in
    let n = next-run _ _ _ r.stands c.run_at-run.ensures in
    (subst (λ (x : Result (ReplayState × ℕ) Refusal). GivesStep (pattern_in a.s.now c.pattern_at-pattern.result) (records_in a.rows.now) c.loop-state.state x) c.in-Ok.is (c.replay_step.ensures _ n)).steps

pub loop-here-init : goal.loop-here-init
loop-here-init c =
    let l = c.requires.0 in
    rw c.first_pattern-here.ensures (filling-first _ (rows-first _ _ _ l) (omega arith), l.whole, refl)

pub pattern_at-pattern-requires : goal.pattern_at-pattern-requires
pattern_at-pattern-requires c =
    let l = c.requires.0 in
    (l.fixed, (ahead_step _ _ _ l.fixed c.loop-here-test.true c.loop-here.invariant.1).pair)

pub loop-state-init : goal.loop-state-init
loop-state-init c = (λ e w. w, refl)

pub run_at-run-requires : goal.run_at-run-requires
run_at-run-requires c = ((pattern-reached (goal.at.run_at-run-requires c).After-pattern_at-pattern).stands, c.loop-state-test.true)

pub replay_step-requires : goal.replay_step-requires
replay_step-requires c =
    let w = (filled (goal.at.replay_step-requires c).At-loop-state).within in
    (_, next (goal.at.replay_step-requires c).After-run_at-run, (w.rows, w.state))

pub copy_rows-requires : goal.copy_rows-requires
copy_rows-requires c =
    let p = (goal.at.copy_rows-requires c).At-loop-state in
    let w = (filled p).within in
    let t = steps (goal.at.copy_rows-requires c).In-Ok w.rows w.state in
    (omega (arith, state-room t.state, (filled p).records, same p), t.copies)

pub overflow_sub-next : goal.overflow_sub-next
overflow_sub-next c = let w = (filled (goal.at.overflow_sub-next c).At-loop-state).within in (steps (goal.at.overflow_sub-next c).In-Ok w.rows w.state).some

pub put_row-requires : goal.put_row-requires
put_row-requires c =
    let p = (goal.at.put_row-requires c).At-loop-state in
    let w = (filled p).within in
    let t = steps (goal.at.put_row-requires c).In-Ok w.rows w.state in
    omega (arith, t.some, state-room t.state, (filled p).records, c.copy_rows.auto.rows, same p)

pub write_singly-state-requires : goal.write_singly-state-requires
write_singly-state-requires c =
    let p = (goal.at.write_singly-state-requires c).At-loop-state in
    let w = (filled p).within in
    let t = steps (goal.at.write_singly-state-requires c).In-Ok w.rows w.state in
    ((pattern-reached (goal.at.write_singly-state-requires c).After-pattern_at-pattern).stands, omega (arith, state-room t.state, c.put_row.auto.rows, c.copy_rows.auto.rows, same p))

pub loop-state-smaller : goal.loop-state-smaller
loop-state-smaller c =
    let g = goes (goal.at.loop-state-smaller c).In-Ok in
    omega (arith, g.some, g.within, c.write_singly-state.ensures.onward)

pub loop-state-preserved : goal.loop-state-preserved
loop-state-preserved c =
    let g = goes (goal.at.loop-state-preserved c).In-Ok in
    let i = c.loop-state.invariant in
    let records = ap (λ (n : ℕ). n / record_numbers) (c.put_row.auto.rows ∙ c.copy_rows.auto.rows ∙ same (goal.at.loop-state-preserved c).At-loop-state) in
    let w = rw records at c.write_singly-state.ensures in (
      λ e v. w.keeps _ _ e (filling_step _ (i.0 e v) g (c.put_row.ensures ∙ rw c.copy_rows.ensures refl)),
      c.write_singly-state.auto.rows ∙ c.put_row.auto.rows ∙ c.copy_rows.auto.rows ∙ i.1,
    )

pub shape_of-rows-in-Err : goal.shape_of-rows-in-Err
shape_of-rows-in-Err c = same (goal.at.shape_of-rows-in-Err c).At-loop-state

pub returns-in-Err : goal.returns-in-Err
returns-in-Err c = absurd (never (goal.at.returns-in-Err c).At-loop-state (went (goal.at.returns-in-Err c).After-replay_step (next (goal.at.returns-in-Err c).After-run_at-run) _ c.in-Err.is))

pub patterns_behind-here-requires : goal.patterns_behind-here-requires
patterns_behind-here-requires c =
    (c.loop-here-test.true, (pattern-reached (goal.at.patterns_behind-here-requires c).After-pattern_at-pattern).near)

pub loop-here-smaller : goal.loop-here-smaller
loop-here-smaller c =
    let e = ap (λ (x : PatternsAt). x.left) c.patterns_behind-here.ensures in
    omega (arith, c.loop-here-test.true)

pub loop-here-preserved : goal.loop-here-preserved
loop-here-preserved c =
    let p = (goal.at.loop-here-preserved c).At-loop-state in
    rw c.patterns_behind-here.ensures (filling-out _ (filled p) c.loop-state-test.false, (pattern-reached (goal.at.loop-here-preserved c).After-pattern_at-pattern).whole, same p)

pub shape_of-rows : goal.shape_of-rows
shape_of-rows c = c.loop-here.invariant.2

pub returns : goal.returns
returns c =
    let a = c.args in
    filling-end (rw (none-coming a.s.now c.loop-here.here c.loop-here-test.false) at c.loop-here.invariant.0)
