-- Samples entered one by one.
use mathlib.Core.Path.{◌≡◌, refl, ◌∙◌}
use Prim.Native.Nat.{ℕ, ◌+◌, ◌-◌, ◌*◌, ◌%◌, ◌≤◌, ◌<◌}
use native.Mathlib.Nat.{mul-suc}
use native.Mathlib.Numerals.{add-one}
use native.Mathlib.Omega.{arith}
use mathlib.Core.List.{List}
use Rattle.base_fields.specs.Answer.{given}
use Rattle.table_rows.specs.Pattern.{Pattern, index_in}
use Rattle.table_patterns.specs.Place.{index_field, pattern_in}
use Rattle.table_patterns.specs.declared.PatternAt.{PatternAt}
use Rattle.table_patterns.proofs.Indices.{index-at-turn}
use Rattle.table_patterns.proofs.Runs.{mod_step}
use Rattle.table_replay.specs.Enter.{enter_run}
use Rattle.table_rows.specs.Row.{put_row}
use Rattle.table_replay.specs.Step.{put_step}
use Rattle.table_replay.specs.Within.{Singly, SinglyWritten}
use Rattle.table_replay.specs.declared.enter.Tail.{Tail}
use Rattle.table_replay.specs.declared.step.ReplayState.{ReplayState}
use Rattle.table_replay.proofs.Copying.{copied-end}
use Rattle.table_replay.proofs.Stepping.{single-goes}
use Rattle.table_replay.proofs.Within.{within_step, filling_step}

-- the next sample: plain numbers, so that `omega` reads no more than these
pub next-onward : (first k : ℕ) → first ≤ k → first ≤ k + 1
next-onward first k h = omega arith

pub next-below : (k last : ℕ) → k < last → k + 1 ≤ last
next-below k last h = omega arith

pub next-less : (k last : ℕ) → k < last → last - (k + 1) < last - k
next-less k last h = omega arith

-- the place of its index
pub next_place : (p : PatternAt) (first k at : ℕ) → first ≤ k → at ≡ p.indices + p.width * (first % p.length + (k - first)) →
    at + p.width ≡ p.indices + p.width * (first % p.length + (k + 1 - first))
next_place p first k at h e =
    let turn = first % p.length + (k - first) in
    let more : first % p.length + (k + 1 - first) ≡ turn + 1 = omega arith in
    rw more (omega (arith, mul-suc p.width turn, add-one turn))

-- a sample's index stands at its turn in the period
pub turn-index : (s : List ℕ) (p : PatternAt) (first k at : ℕ) → 0 < p.length → first ≤ k → first % p.length + (k - first) < p.length →
    at ≡ p.indices + p.width * (first % p.length + (k - first)) → index_in (pattern_in s p) k ≡ index_field p.marks p.width s at
turn-index s p first k at pos l h e =
    let parts : first + (k - first) ≡ k = omega arith in
    let turn : k % p.length ≡ first % p.length + (k - first) = rw parts at (mod_step first (k - first) p.length h) in
    index-at-turn s p k pos ∙ rw (turn, e) refl

module _ (p : Pattern) (room : ℕ) (at : ReplayState) where
  pub singly-none : Singly p room at at
  singly-none = record { onward = omega arith; keeps = λ answer rest w. w }

  pub written_none : (l : List ℕ) → SinglyWritten p room at at l l
  written_none l = record { onward = omega arith; keeps = λ answer rest e w. w }

  -- one sample more
  module _ (here : ReplayState) (i : ℕ) {tail : Tail} (h : here.sample < p.count) (q : index_in p here.sample ≡ i) (e : given tail ≡ enter_run room here.tail 1 i) where
    abbrev on : ReplayState
    on = record { tail = tail; sample = here.sample + 1; mark = here.mark }

    pub singly-on : Singly p room at here → Singly p room at on
    singly-on w =
        record {
          onward = omega (arith, w.onward);
          keeps = λ answer rest v. within_step p (w.keeps answer rest v) (single-goes p room here i h q e);
        }

    pub written_on : {l m n : List ℕ} → SinglyWritten p room at here l m → n ≡ put_row (tail.rows - 1) tail.count tail.index m → SinglyWritten p room at on l n
    written_on {l} {m} {n} w f =
        let none : tail.rows - tail.rows ≡ 0 = omega arith in
        let put : n ≡ put_step here on tail.rows m = f ∙ rw (copied-end (tail.rows - tail.rows) (here.mark.tail.rows - 1) (tail.rows - 1) m none) refl in
        record {
          onward = omega (arith, w.onward);
          keeps = λ answer rest v u. filling_step p (w.keeps answer rest v u) (single-goes p room here i h q e) put;
        }
