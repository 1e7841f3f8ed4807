-- What the run and the periods behind it told, put together by the laws of a step: `run-refused`, `step-full` and `step-on`.
use Rattle.std.specs.Prelude.{Result, Err, Option, Some, None, ok_or}
use Rattle.std.proofs.lemmas.Result.{err_from_is_err_and}
use mathlib.Core.Path.{◌≡◌, subst}
use Prim.Native.Nat.{ℕ, ◌+◌, ◌≤◌}
use native.Mathlib.Omega.{arith}
use Rattle.base_fields.specs.declared.refusal.Refusal.{Refusal}
use Rattle.base_fields.specs.declared.refusal.Refusal.TheVariants as refusal
use Rattle.base_ids.specs.Limits.{count_limit}
use Rattle.table_rows.specs.Pattern.{Pattern}
use Rattle.table_replay.specs.Periods.{GivesPassed}
use Rattle.table_replay.specs.Step.{NextRun}
use Rattle.table_replay.specs.declared.enter.Tail.{Tail}
use Rattle.table_replay.specs.declared.periods.Mark.{Mark}
use Rattle.table_replay.proofs.Stepping.{run-refused, run_fits, step-full, step-on}
use Rattle.table_replay.proofs.step.replay_step.Goals as goal
use Rattle.table_replay.proofs.step.replay_step.Goals.{After-enter_run, After-pass_periods}

abbrev Next : Pattern → After-enter_run → Type 0
Next p c = let a = c.args in NextRun p a.pattern a.state a.run

-- the run's count
few : (c : After-enter_run) {p : Pattern} → Next p c → c.args.run.count ≤ count_limit
few c q = omega (arith, q.run.within, q.count)

-- what passing the periods told
abbrev Told : After-pass_periods → ℕ → Option (Tail × ℕ × Mark) → Type 0
Told c count r = let a = c.args in GivesPassed a.state.mark c.in_ok-tail.tail (a.state.sample + a.run.count) a.pattern.length count a.room r

passed : (c : After-pass_periods) {p : Pattern} → (let a = c.args in NextRun p a.pattern a.state a.run) → (r : Option (Tail × ℕ × Mark)) → c.pass_periods.result ≡ r → Told c p.count r
passed c n r e = subst (λ (m : ℕ). Told c m r) n.count (subst (λ (x : Option (Tail × ℕ × Mark)). Told c c.args.pattern.count x) e c.pass_periods.ensures)

pub returns-in_err-tail : goal.returns-in_err-tail
returns-in_err-tail c =
    let at-run = (goal.at.returns-in_err-tail c).After-enter_run in
    let r = err_from_is_err_and c.from_residual.result c.from_residual.ensures.1 in
    rw (r.1, r.2) (λ p n rows w. run-refused p _ _ _ n.run (few at-run n) rows w c.in_err-tail.ensures)

pub overflow_add-k : goal.overflow_add-k
overflow_add-k c =
    let w = c.requires in
    omega (arith, w.1.run.within, w.1.count)

pub pass_periods-requires : goal.pass_periods-requires
pass_periods-requires c =
    let at-run = (goal.at.pass_periods-requires c).After-enter_run in
    let w = c.requires in
    let q = w.1 in
    let f = run_fits _ _ _ _ q.run (few at-run q) w.2.0 w.2.1 q.indices c.in_ok-tail.ensures in
    (q.some, omega (arith, q.run.within, q.count), f.0, f.1)

-- no periods told: no record is left
none-left : {A : Type 0} {o : Option A} {e : Refusal} → o ≡ None → ◌≡◌ {A = Result A Refusal} (Err e) (ok_or o refusal.NoRecordLeft) → e ≡ refusal.NoRecordLeft
none-left {A} {o} {e} n h = let z : ◌≡◌ {A = Result A Refusal} (Err e) (Err refusal.NoRecordLeft) = rw n at h in cc

pub returns-in_err-next : goal.returns-in_err-next
returns-in_err-next c =
    let at-run = (goal.at.returns-in_err-next c).After-enter_run in
    let at-periods : After-pass_periods = (goal.at.returns-in_err-next c).After-pass_periods in
    let none = c.in_err-next.ensures.ok_part in
    let r = err_from_is_err_and c.from_residual-in_err-next.result c.from_residual-in_err-next.ensures.1 in
    rw (r.1, r.2, none-left none c.in_err-next.ensures.value)
    (λ p n rows w. step-full p _ _ _ n.run (few at-run n) rows w n.indices c.in_ok-tail.ensures (passed at-periods n None none))

pub returns : goal.returns
returns c p n =
    let at-run = (goal.at.returns c).After-enter_run in
    let at-periods : After-pass_periods = (goal.at.returns c).After-pass_periods in
    let o = passed at-periods n (Some (c.in_ok-next.next, c.in_ok-next.sample, c.in_ok-next.mark)) c.in_ok-next.ensures.ok_part in
    record {
      some = omega (arith, o.sample, n.run.some);
      within = omega (arith, o.sample, o.repeats.within);
      steps = λ rows w. step-on p _ _ _ n.run (few at-run n) rows w n.indices c.in_ok-tail.ensures o;
    }
