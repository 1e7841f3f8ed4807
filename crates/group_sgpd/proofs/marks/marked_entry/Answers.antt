-- No entry has the number; or it is looked for from the landmark before it on (`on-mark`).
use mathlib.Core.Path.{◌≡◌, sym, ap, ◌∙◌}
use Prim.Native.Nat.{ℕ, ◌+◌, ◌-◌, ◌*◌, ◌/◌, ◌≤◌, ◌<◌}
use native.Mathlib.Omega.{arith}
use lib.ListN.{get_or}
use Rattle.group_sgpd.specs.Sgpd.{entry_count_of}
use Rattle.group_sgpd.specs.Head.{OnEntry}
use Rattle.group_sgpd.specs.Marks.{marks_apart}
use Rattle.group_sgpd.proofs.Heads.{count-is}
use Rattle.group_sgpd.proofs.Onward.{entry-none, first-inside}
use Rattle.group_sgpd.proofs.Marked.{mark-below, mark-there, on-mark}
use Rattle.group_sgpd.proofs.marks.marked_entry.Goals as goal
use Rattle.group_sgpd.proofs.marks.marked_entry.Goals.{After-marks_apart-apart}

-- where the distance of the landmarks is known
module _ (c : After-marks_apart-apart) where
  abbrev i : ℕ
  i = c.args.index.0

  abbrev n : ℕ
  n = c.marks_apart-apart.result

  counted : c.args.head.entry_count ≡ entry_count_of c.args.s.now
  counted = count-is c.requires.0.head

  apart : n ≡ marks_apart (entry_count_of c.args.s.now)
  apart = c.marks_apart-apart.ensures ∙ ap marks_apart counted

  some : 0 < i
  some = omega (arith, c.if-i-eq0.false)

  within : i ≤ entry_count_of c.args.s.now
  within = omega (arith, c.if-head-i.false, counted)

  below : (i - 1) / n * n < i
  below = mark-below c.args.s.now c.args.marks.now apart c.requires.1 i some within

  there : (i - 1) / n < 16
  there = mark-there c.args.s.now c.args.marks.now apart c.requires.1 i some within

  on : OnEntry c.args.s.now (record { index = record { 0 = (i - 1) / n * n + 1 }; place = get_or c.args.marks.now ((i - 1) / n) 0 })
  on = on-mark c.args.s.now c.args.marks.now apart c.requires.1 i some within

pub returns-then-i-eq0 : goal.returns-then-i-eq0
returns-then-i-eq0 c = sym (entry-none c.requires.0 c.args.index.0 (λ h. absurd (omega arith)))

pub returns-then-head-i : goal.returns-then-head-i
returns-then-head-i c =
    let over : entry_count_of c.args.s.now < c.args.index.0 = omega (arith, count-is c.requires.0.head) in
    sym (entry-none c.requires.0 c.args.index.0 (λ h. over))

pub overflow_cast-at : goal.overflow_cast-at
overflow_cast-at c = omega (arith, there c)

pub offset_bounds-marks-at : goal.offset_bounds-marks-at
offset_bounds-marks-at c = omega (arith, there (goal.at.offset_bounds-marks-at c).After-marks_apart-apart)

pub bounds-marks-at : goal.bounds-marks-at
bounds-marks-at c = there (goal.at.bounds-marks-at c).After-marks_apart-apart

pub overflow_cast-place : goal.overflow_cast-place
overflow_cast-place c =
    omega (arith, first-inside c.requires.0.head _ (on (goal.at.overflow_cast-place c).After-marks_apart-apart).place, c.requires.0.head.short)

pub overflow_mul-cursor : goal.overflow_mul-cursor
overflow_mul-cursor c = omega (arith, below (goal.at.overflow_mul-cursor c).After-marks_apart-apart)

pub overflow_add-cursor : goal.overflow_add-cursor
overflow_add-cursor c = omega (arith, below (goal.at.overflow_add-cursor c).After-marks_apart-apart)

pub entry_onward-step-requires : goal.entry_onward-step-requires
entry_onward-step-requires c =
    record {
      read_whole = c.requires.0;
      on_entry = on (goal.at.entry_onward-step-requires c).After-marks_apart-apart;
      index_le_index = (omega (arith, below (goal.at.entry_onward-step-requires c).After-marks_apart-apart), c.if-head-i.false);
    }

pub returns : goal.returns
returns c = c.entry_onward-step.ensures.found
