-- A step of the replay within a pattern: a run of samples, and the periods behind it that are passed.
use mathlib.Core.Path.{◌≡◌, refl, ap, sym, ◌∙◌}
use mathlib.Core.Logic.{inl, ⊎_elim}
use Prim.Native.Nat.{ℕ, ◌+◌, ◌-◌, ◌*◌, ◌≤◌, ◌<◌}
use native.Mathlib.Nat.{zero-mul}
use native.Mathlib.Omega.{arith}
use borrow.Author.Tests.{le-leb, lt-leb}
use mathlib.Core.List.{List, ◌∷◌}
use lib.ListN.{length, replicate}
use Rattle.base_fields.specs.Answer.{Answer, given, refused}
use Rattle.base_ids.specs.Limits.{count_limit}
use Rattle.table_rows.specs.Row.{Row, record_numbers}
use Rattle.table_rows.specs.Pattern.{Pattern, index_in, samples_from}
use Rattle.table_rows.proofs.Samples.{samples_from-add, samples_from-run}
use Rattle.table_patterns.proofs.Indices.{indices-length}
use Rattle.table_patterns.specs.Place.{pattern_in, Stands}
use Rattle.table_patterns.specs.Run.{GivesRun}
use Rattle.table_patterns.specs.declared.PatternAt.{PatternAt}
use Rattle.table_patterns.specs.declared.run.Run.{Run}
use Rattle.table_replay.specs.Enter.{enter_run}
use Rattle.table_replay.specs.Periods.{Repeats, repeated, Passes, Overfull}
use Rattle.table_replay.specs.Records.{copied, Written}
use Rattle.table_replay.specs.Replay.{replay}
use Rattle.table_replay.specs.Step.{StateOf, NextRun, put_step, Steps, Goes}
use Rattle.table_replay.specs.declared.enter.Tail.{Tail}
use Rattle.table_replay.specs.declared.periods.Mark.{Mark}
use Rattle.table_replay.specs.declared.step.ReplayState.{ReplayState}
use Rattle.table_replay.proofs.Copying.{Place, put, place-below, copy-growth}
use Rattle.table_replay.proofs.Entering.{below, grown, Told, enter-told, tail-length}
use Rattle.table_replay.proofs.Passing.{Growth, marked-here, marked-run, marked_still, repeated-none, growth}
use Rattle.table_replay.proofs.Repeating.{stacked, stacked-length}
use Rattle.table_replay.proofs.Replay.{replay_append, replay-room}

pub state-room : {p : Pattern} {room : ℕ} {rows : List Row} {at : ReplayState} → StateOf p room rows at → at.tail.rows ≤ room
state-room {rows = rows} w = omega (arith, ap (λ (y : Tail). y.rows) w.standing, tail-length rows, w.roomy)

-- the run that is read of a pattern in a payload
pub next-run : (s : List ℕ) (pattern : PatternAt) (at : ReplayState) {run : Run} → Stands s pattern → GivesRun (pattern_in s pattern) at.sample run → NextRun (pattern_in s pattern) pattern at run
next-run s pattern at w g =
    record {
      some = w.some;
      indices = sym (indices-length pattern.marks pattern.width s pattern.length pattern.indices);
      count = refl;
      run = g;
    }

-- the periods behind rows of which x is the last
module _ (p : Pattern) (room : ℕ) {len : ℕ} (t : len ≡ length p.indices) (x : Row) (low : List Row) (at : ReplayState) (w : StateOf p room (x ∷ low) at) where
  module _ (n : ℕ) (r : Repeats at.mark at.tail at.sample len p.count n) where
    grows : Growth room at.mark at.tail n (samples_from p at.sample (n * len)) x low
    grows = growth p room at.sample len p.count t at.mark at.tail n x low w.roomy w.standing w.marked r

    size : length (x ∷ stacked n grows.period low) ≡ (repeated at.mark at.tail n).rows
    size = omega (arith, stacked-length n grows.period low, grows.more, ap (λ (y : Tail). y.rows) w.standing)

  periods-full : (o : Overfull at.mark at.tail at.sample len p.count room) → replay room (x ∷ low) (samples_from p at.sample (o.periods * len)) ≡ refused 29
  periods-full o =
      let g = grows o.periods o.repeats in
      let b : room < length (x ∷ stacked o.periods g.period low) = omega (arith, size o.periods o.repeats, o.full) in
      g.replays ∙ rw (lt-leb _ _ b) refl

  module _ {u : Tail} {j : ℕ} {next : Mark} (o : Passes at.mark at.tail at.sample len p.count room u j next) where
    abbrev passed_rows : List Row
    passed_rows = x ∷ stacked o.periods (grows o.periods o.repeats).period low

    passed-fits : length passed_rows ≤ room
    passed-fits = omega (arith, size o.periods o.repeats, o.roomy, ap (λ (y : Tail). y.rows) o.rows)

    passed-replays : replay room (x ∷ low) (samples_from p at.sample (o.periods * len)) ≡ given passed_rows
    passed-replays = (grows o.periods o.repeats).replays ∙ rw (le-leb _ _ passed-fits) refl

    passed-state : StateOf p room passed_rows (record { tail = u; sample = j; mark = next })
    passed-state =
        let st = w.standing in
        let standing = o.rows ∙ (λ i. record { rows = sym (size o.periods o.repeats) i; count = (st i).count; index = (st i).index }) in
        record {
          standing = standing;
          small = rw (ap (λ (y : Tail). y.count) o.rows) w.small;
          roomy = passed-fits;
          marked =
              ⊎_elim
              (λ z. rw (z.1, o.sample) (marked_still p room at.sample o.periods len (grows o.periods o.repeats).period z.0 w.marked))
              (λ z. rw z (marked-here p room j standing))
              o.marks;
        }

-- a run from a state on, and the periods behind it
module _ (p : Pattern) (room : ℕ) (at : ReplayState) (r : Run) (g : GivesRun p at.sample r) (small : r.count ≤ count_limit) (rows : List Row) (w : StateOf p room rows at) where
  -- a refusal before the pattern's end is that of all its samples
  refuses : (n : ℕ) {code : ℕ} → at.sample + n ≤ p.count → replay room rows (samples_from p at.sample n) ≡ refused code →
      replay room rows (samples_from p at.sample (p.count - at.sample)) ≡ refused code
  refuses n h e =
      let parts : p.count - at.sample ≡ n + (p.count - at.sample - n) = omega arith in
      rw (parts, samples_from-add p at.sample n (p.count - at.sample - n), replay_append, e) refl

  told : {a : Answer Tail} → a ≡ enter_run room at.tail r.count r.index → Told room rows r.count r.index a
  told e = rw (e, w.standing) (enter-told room r.count r.index g.some small rows (rw w.standing at w.small))

  pub run-refused : {code : ℕ} → refused code ≡ enter_run room at.tail r.count r.index → replay room rows (samples_from p at.sample (p.count - at.sample)) ≡ refused code
  run-refused e = refuses r.count g.within (rw g.samples (told e))

  module _ {len : ℕ} (t : len ≡ length p.indices) {tail : Tail} (e : given tail ≡ enter_run room at.tail r.count r.index) where
    abbrev entered : ReplayState
    entered = record { tail = tail; sample = at.sample + r.count; mark = at.mark }

    abbrev low : List Row
    low = below rows r.index

    abbrev last : Row
    last = record { count = grown rows r.count r.index; index = r.index }

    run-state : StateOf p room (last ∷ low) entered
    run-state =
        record {
          standing = (told e).1;
          small = (told e).2;
          roomy = replay-room room rows (replicate r.count r.index) (told e).0 w.roomy;
          marked = marked-run p room at.sample r.count r.index w.marked g.samples (told e).0;
        }

    pub run_fits : (at.mark.sample ≤ at.sample + r.count) × (tail.rows ≤ room)
    run_fits = (run-state.marked.behind, state-room run-state)

    onward : (n : ℕ) {a : Answer (List Row)} → replay room (last ∷ low) (samples_from p (at.sample + r.count) n) ≡ a → replay room rows (samples_from p at.sample (r.count + n)) ≡ a
    onward n q = rw (samples_from-add p at.sample r.count n, g.samples, replay_append, (told e).0) q

    pub step-full : Overfull at.mark tail (at.sample + r.count) len p.count room → replay room rows (samples_from p at.sample (p.count - at.sample)) ≡ refused 29
    step-full o = refuses (r.count + o.periods * len) (omega (arith, o.repeats.within)) (onward (o.periods * len) (periods-full p room t last low entered run-state o))

    module _ {u : Tail} {j : ℕ} {next : Mark} (o : Passes at.mark tail (at.sample + r.count) len p.count room u j next) where
      abbrev growing : Growth room at.mark tail o.periods (samples_from p (at.sample + r.count) (o.periods * len)) last low
      growing = grows p room t last low entered run-state o.periods o.repeats

      abbrev up : List Row
      up = stacked o.periods growing.period low

      abbrev stepped : ReplayState
      stepped = record { tail = u; sample = j; mark = next }

      state : StateOf p room (last ∷ up) stepped
      state = passed-state p room t last low entered run-state o

      -- the rows of the periods are copied behind those that stood, and the last row is put
      written : (e l : List ℕ) → record_numbers * room ≤ length e → Written e l rows → Written e (put_step at stepped tail.rows l) (last ∷ up)
      written e l records h =
          let before = ap (λ (y : Tail). y.rows) run-state.standing in
          let v = ap (λ (y : Tail). y.rows) o.rows in
          let n : u.rows - tail.rows ≡ o.periods * length growing.period = omega (arith, growing.more) in
          let sum = stacked-length o.periods growing.period low in
          let fits = state.roomy in
          let spot : Place e l low = place-below e l rows r.index h (omega arith) in
          let copy : Place e (copied (u.rows - tail.rows) (at.mark.tail.rows - 1) (tail.rows - 1) l) up =
          rw n (copy-growth e o.periods at.mark.tail.rows tail.rows growing.period growing.others low l growing.parts growing.from before spot (omega arith)) in
          let st = state.standing in
          let m : u.rows - 1 ≡ length up = ap (λ (y : Tail). y.rows - 1) st ∙ omega arith in
          rw (m, ap (λ (y : Tail). y.count) st, ap (λ (y : Tail). y.index) st) (put e _ up last copy)

      pub step-on : Steps p room rows at stepped tail.rows
      step-on =
          let v = ap (λ (y : Tail). y.rows) o.rows in
          let top = ap (λ (y : Tail). y.rows) state.standing in
          let passed : j - at.sample ≡ r.count + o.periods * len = omega (arith, o.sample) in
          record {
            out = last ∷ up;
            replays = rw passed (onward (o.periods * len) (passed-replays p room t last low entered run-state o));
            state = state;
            some = omega arith;
            copies = λ q. ⊎_elim (λ z. absurd (omega (arith, rw (z, zero-mul) at v))) (λ a. (a.some, omega (arith, a.more))) o.repeats.alike;
            written = written;
          }

-- one sample from a state on, and no period
pub single-goes : (p : Pattern) (room : ℕ) (at : ReplayState) (i : ℕ) {tail : Tail} → at.sample < p.count → index_in p at.sample ≡ i → given tail ≡ enter_run room at.tail 1 i →
    Goes p room at (record { tail = tail; sample = at.sample + 1; mark = at.mark }) tail.rows
single-goes p room at i {tail} h q e =
    let r : Run = record { count = 1; index = i } in
    let g : GivesRun p at.sample r =
    record {
      some = omega arith;
      within = omega arith;
      samples = samples_from-run p at.sample 1 (λ j l. let z : at.sample + j ≡ at.sample = omega arith in rw z q);
    } in
    record {
      some = omega arith;
      within = omega arith;
      steps = λ rows w.
          step-on p room at r g (omega arith) rows w refl e
          (record {
            periods = 0;
            repeats = record { alike = inl refl; within = omega arith };
            rows = repeated-none at.mark tail;
            sample = omega arith;
            roomy = (run_fits p room at r g (omega arith) rows w refl e).1;
            marks = inl (refl, refl);
          });
    }
