use Rattle.std.specs.Prelude.{Result, Ok, Err}
use mathlib.Core.Path.{◌≡◌, refl, ap, sym, subst}
use Prim.Native.Nat.{ℕ, ◌<◌}
use native.Mathlib.Omega.{arith}
use mathlib.Core.List.{List, []}
use lib.ListN.{length}
use Rattle.base_fields.specs.Answer.{Answer, given, refused}
use Rattle.base_fields.specs.Refusal.{number}
use Rattle.base_fields.specs.declared.refusal.Refusal.{Refusal}
use Rattle.base_fields.proofs.Handed.{handed}
use Rattle.table_rows.specs.Row.{Row}
use Rattle.table_patterns.specs.Place.{pattern_in}
use Rattle.table_replay.specs.Step.{NextRun, GivesStep}
use Rattle.table_replay.specs.declared.step.ReplayState.{ReplayState}
use Rattle.table_replay.proofs.Stepping.{next-run}
use Rattle.table_replay.proofs.Within.{Replaying, replaying-first, replaying-end, rows-standing, within_first, within-refused, within_step, within_end}
use Rattle.table_csgp_head.specs.Head.{Whole}
use Rattle.table_csgp_head.specs.declared.PatternsAt.{PatternsAt}
use Rattle.table_csgp_head.proofs.Ahead.{ahead_step}
use Rattle.table_csgp.specs.Rows.{rows_for}
use Rattle.table_csgp.proofs.Ahead.{coming, Reached, rows-first, reached, none-coming}
use Rattle.table_csgp.proofs.measure.measure.Goals as goal
use Rattle.table_csgp.proofs.measure.measure.Goals.{After-pattern_at-pattern, After-patterns_behind-here, After-replay_step, After-run_at-run, Left-replay, else-replay-test, then-replay-test+then-loop-state-test+in-Err}

-- the pattern that was read
pattern-reached : (c : After-pattern_at-pattern) → (let a = c.args in Reached a.s.now a.head c.replay.here c.pattern_at-pattern.result)
pattern-reached c = reached _ _ _ _ c.requires.fixed c.replay-test.true c.replay.invariant.1 c.pattern_at-pattern.ensures

fewer : (c : After-patterns_behind-here) → c.patterns_behind-here.result.left < c.replay.here.left
fewer c =
    let e = ap (λ (x : PatternsAt). x.left) c.patterns_behind-here.ensures in
    omega (arith, c.replay-test.true)

abbrev Onward : After-patterns_behind-here → PatternsAt → Type 0
Onward c here =
    let a = c.args in
    let i = c.loop-state in
    Replaying (rows_for a.s.now a.room) a.room (coming a.s.now here) i.state.tail × Whole a.s.now here × (i.told-1 ≡ Ok tt)

onward : (c : After-patterns_behind-here) → Onward c c.patterns_behind-here.result
onward c =
    let r : Reached c.args.s.now c.args.head c.replay.here c.pattern_at-pattern.result = reached _ _ _ _ c.requires.fixed c.replay-test.true c.replay.invariant.1 c.pattern_at-pattern.ensures in
    let i = c.loop-state.invariant in
    let w = within_end _ i.0 c.loop-state-test.false in
    subst (λ (x : PatternsAt). Onward c x) (sym c.patterns_behind-here.ensures) (w, r.whole, i.1)

-- the run that is read of it
next : (c : After-run_at-run) →
    (let pattern = c.pattern_at-pattern.result in
    NextRun (pattern_in c.args.s.now pattern) pattern c.loop-state.state c.run_at-run.result)
next c =
    let r : Reached c.args.s.now c.args.head c.replay.here c.pattern_at-pattern.result = reached _ _ _ _ c.requires.fixed c.replay-test.true c.replay.invariant.1 c.pattern_at-pattern.ensures in
    next-run _ _ _ r.stands c.run_at-run.ensures

-- what the step told
abbrev Told : After-replay_step → Result (ReplayState × ℕ) Refusal → Type 0
Told c r =
    let a = c.args in
    GivesStep (pattern_in a.s.now c.pattern_at-pattern.result) a.room c.loop-state.state r

went : (c : After-replay_step) (r : Result (ReplayState × ℕ) Refusal) → c.replay_step.result ≡ r → Told c r
went c x e =
    let r : Reached c.args.s.now c.args.head c.replay.here c.pattern_at-pattern.result = reached _ _ _ _ c.requires.fixed c.replay-test.true c.replay.invariant.1 c.pattern_at-pattern.ensures in
    let n = next-run _ _ _ r.stands c.run_at-run.ensures in
    subst (λ (x : Result (ReplayState × ℕ) Refusal). Told c x) e (c.replay_step.ensures _ n)

-- after the replay: all samples are entered, or what is told is the answer
abbrev Done : Answer (List Row) → Result Unit Refusal → ℕ → Type 0
Done answer (Ok x) rows = (out : List Row) × (answer ≡ given out) × (rows ≡ length out)
Done answer (Err e) rows = answer ≡ refused (number e)

done : (c : Left-replay) →
    (let a = c.args in Done (rows_for a.s.now a.room) c.replay-test.told c.replay.tail.rows)
done c =
    let a = c.args in
    let i = c.replay.invariant in
    elim c.replay-test.branch [
      | else-replay-test w ↦
          let all : Replaying (rows_for a.s.now a.room) a.room [] c.replay.tail = rw (none-coming a.s.now c.replay.here w.replay-test.false) at i.0 in
          rw (w.told-is, i.2) (all.rows, replaying-end all, rows-standing all)
      | then-replay-test+then-loop-state-test+in-Err w ↦
          let r : Reached a.s.now a.head c.replay.here w.pattern_at-pattern.result = reached _ _ _ _ c.requires.fixed w.replay-test.true c.replay.invariant.1 w.pattern_at-pattern.ensures in
          let n = next-run _ _ _ r.stands w.run_at-run.ensures in
          let g = subst (λ (x : Result (ReplayState × ℕ) Refusal). GivesStep (pattern_in a.s.now w.pattern_at-pattern.result) a.room w.loop-state.state x) w.in-Err.is (w.replay_step.ensures _ n) in
          rw w.told-is (within-refused _ w.loop-state.invariant.0 g)
    ]

pub replay-init : goal.replay-init
replay-init c =
    let l = c.requires in
    rw c.first_pattern-here.ensures (replaying-first (rows-first _ _ _ l), l.whole, refl)

pub pattern_at-pattern-requires : goal.pattern_at-pattern-requires
pattern_at-pattern-requires c =
    let l = c.requires in
    (l.fixed, (ahead_step _ _ _ l.fixed c.replay-test.true c.replay.invariant.1).pair)

pub loop-state-init : goal.loop-state-init
loop-state-init c =
    let i = c.replay.invariant in
    (rw c.pattern_start-state.ensures (within_first _ (rw (pattern-reached (goal.at.loop-state-init c).After-pattern_at-pattern).samples at i.0)), i.2)

pub run_at-run-requires : goal.run_at-run-requires
run_at-run-requires c = ((pattern-reached (goal.at.run_at-run-requires c).After-pattern_at-pattern).stands, c.loop-state-test.true)

pub replay_step-requires : goal.replay_step-requires
replay_step-requires c =
    let w = c.loop-state.invariant.0 in
    (_, next (goal.at.replay_step-requires c).After-run_at-run, (w.rows, w.state))

pub enter_singly-state-requires : goal.enter_singly-state-requires
enter_singly-state-requires c = (pattern-reached (goal.at.enter_singly-state-requires c).After-pattern_at-pattern).stands

pub loop-state-smaller : goal.loop-state-smaller
loop-state-smaller c =
    let g = went (goal.at.loop-state-smaller c).After-replay_step _ c.in-Ok.is in
    omega (arith, g.some, g.within, c.enter_singly-state.ensures.onward)

pub loop-state-preserved : goal.loop-state-preserved
loop-state-preserved c =
    let i = c.loop-state.invariant in
    (c.enter_singly-state.ensures.keeps _ _ (within_step _ i.0 (went (goal.at.loop-state-preserved c).After-replay_step _ c.in-Ok.is)), i.1)

pub patterns_behind-here-requires : goal.patterns_behind-here-requires
patterns_behind-here-requires c =
    (c.replay-test.true, (pattern-reached (goal.at.patterns_behind-here-requires c).After-pattern_at-pattern).near)

pub replay-smaller : goal.replay-smaller
replay-smaller c = fewer (goal.at.replay-smaller c).After-patterns_behind-here

pub replay-preserved : goal.replay-preserved
replay-preserved c = onward (goal.at.replay-preserved c).After-patterns_behind-here

pub returns-in_err-told : goal.returns-in_err-told
returns-in_err-told c =
    let stopped = rw c.in_err-told.was at (done (goal.at.returns-in_err-told c).Left-replay) in
    rw (handed c.from_residual.ensures, stopped) refl

pub returns : goal.returns
returns c =
    let all = rw c.in_ok-told.was at (done (goal.at.returns c).Left-replay) in
    rw all.1 (ap given all.2)
