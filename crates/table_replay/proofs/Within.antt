-- The replay by steps: what the rows so far decide, with the samples to come, within a pattern and behind it.
use mathlib.Core.Path.{◌≡◌, refl, ap, ◌∙◌}
use Prim.Native.Nat.{ℕ, ◌+◌, ◌-◌, ◌*◌, ◌≤◌}
use native.Mathlib.Nat.{sub-zero}
use native.Mathlib.Omega.{arith}
use mathlib.Core.List.{List, [], ◌++◌, reverse, append_assoc}
use lib.ListN.{length}
use Rattle.base_fields.specs.Answer.{Answer, given, refused}
use Rattle.base_ids.specs.Limits.{count_limit}
use Rattle.table_rows.specs.Row.{Row, record_numbers, flat, filled}
use Rattle.table_rows.specs.Pattern.{Pattern, samples_from}
use Rattle.table_rows.proofs.Samples.{samples_from-add}
use Rattle.table_replay.specs.Enter.{tail_of}
use Rattle.table_replay.specs.Records.{Written}
use Rattle.table_replay.specs.Replay.{replay}
use Rattle.table_replay.specs.Step.{start_of, put_step, Steps, Refuses, Goes}
use Rattle.table_replay.specs.Within.{Within, FillingWithin}
use Rattle.table_replay.specs.declared.enter.Tail.{Tail}
use Rattle.table_replay.specs.declared.step.ReplayState.{ReplayState}
use Rattle.table_replay.proofs.Entering.{tail-length}
use Rattle.table_replay.proofs.Passing.{marked-here}
use Rattle.table_replay.proofs.Replay.{replay_append}

-- between patterns: the rows so far and the samples to come decide the answer
pub record Replaying (answer : Answer (List Row)) (room : ℕ) (coming : List ℕ) (tail : Tail) : Type 0 where
  pub rows : List Row
  pub standing : tail ≡ tail_of rows
  pub small : tail.count ≤ count_limit
  pub roomy : length rows ≤ room
  pub decides : answer ≡ replay room rows coming

-- the same with the rows in front of the run l, which was e
pub record Filling (answer : Answer (List Row)) (room : ℕ) (coming : List ℕ) (tail : Tail) (e l : List ℕ) : Type 0 where
  pub replaying : Replaying answer room coming tail
  pub records : record_numbers * room ≤ length e
  pub written : Written e l replaying.rows

abbrev pub no_rows : Tail
no_rows = record { rows = 0; count = 0; index = 0 }

module _ {answer : Answer (List Row)} {room : ℕ} where
  abbrev pub replaying-first : {coming : List ℕ} → answer ≡ replay room [] coming → Replaying answer room coming no_rows
  replaying-first e = record { rows = []; standing = refl; small = omega arith; roomy = omega arith; decides = e }

  pub filling-first : {coming : List ℕ} (e : List ℕ) → answer ≡ replay room [] coming → record_numbers * room ≤ length e → Filling answer room coming no_rows e e
  unfolding flat
  filling-first e d h = record { replaying = replaying-first d; records = h; written = refl }

  module _ {tail : Tail} where
    pub replaying-end : (w : Replaying answer room [] tail) → answer ≡ given w.rows
    unfolding replay
    replaying-end w = w.decides

    pub rows-standing : {coming : List ℕ} (w : Replaying answer room coming tail) → tail.rows ≡ length w.rows
    rows-standing w = ap (λ (t : Tail). t.rows) w.standing ∙ tail-length w.rows

    pub filling-end : {e l : List ℕ} → Filling answer room [] tail e l → l ≡ filled reverse answer e
    filling-end w = w.written ∙ rw (replaying-end w.replaying) refl

  module _ (p : Pattern) {rest : List ℕ} where
    abbrev pub within_first : {tail : Tail} → Replaying answer room (samples_from p 0 p.count ++ rest) tail → Within answer room p rest (start_of tail)
    within_first w =
        record {
          rows = w.rows;
          state = record { standing = w.standing; small = w.small; roomy = w.roomy; marked = marked-here p room 0 w.standing };
          within = omega arith;
          decides = rw sub-zero w.decides;
        }

    module _ {at : ReplayState} (w : Within answer room p rest at) where
      pub within-refused : {code : ℕ} → Refuses p room at code → answer ≡ refused code
      within-refused f = w.decides ∙ replay_append room w.rows (samples_from p at.sample (p.count - at.sample)) rest ∙ rw (f w.rows w.state) refl

      pub none_left : p.count ≤ at.sample → replay room w.rows (samples_from p at.sample (p.count - at.sample) ++ rest) ≡ replay room w.rows rest
      unfolding samples_from
      none_left h = let z : p.count - at.sample ≡ 0 = omega arith in rw z refl

      abbrev pub within_end : p.count ≤ at.sample → Replaying answer room rest at.tail
      within_end h =
          record {
            rows = w.rows;
            standing = w.state.standing;
            small = w.state.small;
            roomy = w.state.roomy;
            decides = w.decides ∙ none_left h;
          }

      module _ {next : ReplayState} {stood : ℕ} (g : Goes p room at next stood) where
        abbrev pub steps : Steps p room w.rows at next stood
        steps = g.steps w.rows w.state

        pub decides-on : answer ≡ replay room steps.out (samples_from p next.sample (p.count - next.sample) ++ rest)
        decides-on =
            let n = next.sample - at.sample in
            let m = p.count - next.sample in
            let h = g.some in
            let i = g.within in
            let parts : p.count - at.sample ≡ n + m = omega arith in
            let on : at.sample + n ≡ next.sample = omega arith in
            w.decides
            ∙ rw (parts, samples_from-add p at.sample n m, on, append_assoc, replay_append, steps.replays) refl

        abbrev pub within_step : Within answer room p rest next
        within_step = record { rows = steps.out; state = steps.state; within = g.within; decides = decides-on }

    module _ {tail : Tail} {e l : List ℕ} where
      pub filling-in : Filling answer room (samples_from p 0 p.count ++ rest) tail e l → FillingWithin answer room p rest (start_of tail) e l
      filling-in w = record { within = within_first w.replaying; records = w.records; written = w.written }

    module _ {at : ReplayState} {e l : List ℕ} (w : FillingWithin answer room p rest at e l) where
      pub filling-out : p.count ≤ at.sample → Filling answer room rest at.tail e l
      filling-out h = record { replaying = within_end w.within h; records = w.records; written = w.written }

      module _ {next : ReplayState} {stood : ℕ} (g : Goes p room at next stood) where
        -- the rows of the step are copied and put
        pub filling_step : {l' : List ℕ} → l' ≡ put_step at next stood l → FillingWithin answer room p rest next e l'
        filling_step q = record { within = within_step w.within g; records = w.records; written = q ∙ (steps w.within g).written e l w.records w.written }
