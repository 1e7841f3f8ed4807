use mathlib.Core.Path.{◌≡◌, refl, ap, sym, ◌∙◌}
use mathlib.Core.List.{List}
use Prim.Native.Nat.{ℕ, ◌+◌, ◌*◌, ◌<◌}
use native.Mathlib.Nat.{mul-le-mul_right, zero-mul, add-mul, one-mul}
use native.Mathlib.Omega.{arith}
use Rattle.std.specs.Prelude.{Result}
use lib.ListN.{set, length-set}
use Rattle.group_sgpd.specs.Sgpd.{entry_count_of, entry_count_place}
use Rattle.group_sgpd.specs.Head.{after}
use Rattle.group_sgpd.specs.Marks.{marks_apart}
use Rattle.base_fields.specs.Refusal.{told_value}
use Rattle.base_fields.specs.declared.refusal.Refusal.{Refusal}
use Rattle.group_sgpd.proofs.Heads.{count-is, first-is, among}
use Rattle.group_sgpd.proofs.Onward.{first-inside}
use Rattle.group_sgpd.proofs.Marked.{enough, MarksBelow, marks-more, next-mark, mark-unrefused, marks-all}
use Rattle.group_sgpd.proofs.marks.entry_marks.Goals as goal
use Rattle.group_sgpd.proofs.marks.entry_marks.Goals.{At-loop-k}

-- at the loop's head
module _ (c : At-loop-k) where
  abbrev bytes : List ℕ
  bytes = c.args.s.now

  abbrev n : ℕ
  n = c.marks_apart-apart.result

  counted : c.args.head.entry_count ≡ entry_count_of bytes
  counted = count-is c.requires.head

  apart : n ≡ marks_apart (entry_count_of bytes)
  apart = c.marks_apart-apart.ensures ∙ ap marks_apart counted

  -- the landmarks with number k set
  abbrev written : List ℕ
  written = set c.loop-k.marks c.loop-k.k c.loop-k.at

  more : c.loop-k.k < 16 → MarksBelow bytes n written (c.loop-k.k + 1)
  more h = marks-more bytes n c.loop-k.marks c.loop-k.k c.loop-k.at (omega (arith, c.loop-k.invariant.0)) c.loop-k.invariant.3 c.loop-k.invariant.2

  step : (c.loop-k.k + 1) * n ≡ c.loop-k.k * n + n
  step = rw (add-mul, one-mul) refl

  -- the place behind the entries up to the next landmark
  onward : {r q : Result ℕ Refusal} → told_value r ≡ after n bytes c.loop-k.at → r ≡ q → after ((c.loop-k.k + 1) * n) bytes (entry_count_place bytes + 4) ≡ told_value q
  onward e f = next-mark bytes n c.loop-k.k c.loop-k.invariant.2 ∙ sym e ∙ ap told_value f

pub loop-k-init : goal.loop-k-init
unfolding after
loop-k-init c =
    (refl, omega (arith, zero-mul c.marks_apart-apart.result), rw (zero-mul, first-is c.requires.head) refl, λ j h. absurd (omega arith))

-- a place within the payload is below 2^32
pub overflow_cast-marks : goal.overflow_cast-marks
overflow_cast-marks c =
    omega (arith, first-inside c.requires.head _ c.loop-k.invariant.2, c.requires.head.short)

pub returns-then-left-apart : goal.returns-then-left-apart
returns-then-left-apart c =
    marks-all (bytes (goal.at.returns-then-left-apart c).At-loop-k) (written (goal.at.returns-then-left-apart c).At-loop-k) (apart (goal.at.returns-then-left-apart c).At-loop-k) (c.loop-k.k + 1) (more (goal.at.returns-then-left-apart c).At-loop-k c.loop-k-test.true) (omega (arith, counted (goal.at.returns-then-left-apart c).At-loop-k, step (goal.at.returns-then-left-apart c).At-loop-k, c.loop-k.invariant.1))

pub skip-requires : goal.skip-requires
skip-requires c =
    let h = c.requires.head in
    record { among = among h c.lengths_by-lengths.ensures (first-inside h _ c.loop-k.invariant.2); n_le_count = omega (arith, c.loop-k.invariant.1) }

pub loop-k-preserved : goal.loop-k-preserved
loop-k-preserved c = (
  simp length-set c.loop-k.invariant.0,
  omega (arith, step (goal.at.loop-k-preserved c).At-loop-k, c.loop-k.invariant.1),
  onward (goal.at.loop-k-preserved c).At-loop-k c.skip.ensures c.in-Ok.is,
  more (goal.at.loop-k-preserved c).At-loop-k c.loop-k-test.true,
)

pub returns-in-Err : goal.returns-in-Err
returns-in-Err c =
    absurd
    (mark-unrefused c.requires ((c.loop-k.k + 1) * n (goal.at.returns-in-Err c).At-loop-k) (omega (arith, counted (goal.at.returns-in-Err c).At-loop-k, step (goal.at.returns-in-Err c).At-loop-k, c.loop-k.invariant.1))
    (onward (goal.at.returns-in-Err c).At-loop-k c.skip.ensures c.in-Err.is))

pub returns : goal.returns
returns c =
    let marks = c.loop-k.marks in
    marks-all (bytes (goal.at.returns c).At-loop-k) marks (apart (goal.at.returns c).At-loop-k) c.loop-k.k c.loop-k.invariant.3 (omega (arith, enough (bytes (goal.at.returns c).At-loop-k) marks (apart (goal.at.returns c).At-loop-k), mul-le-mul_right (n (goal.at.returns c).At-loop-k) c.loop-k-test.false))
