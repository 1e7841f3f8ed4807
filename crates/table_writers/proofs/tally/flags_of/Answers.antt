-- Each code is below 4, so bit 7 is free for the marks.
use mathlib.Core.Path.{◌≡◌, ap, sym, ◌∙◌}
use mathlib.Core.Bool.{Bool}
use Prim.Native.Nat.{ℕ, ◌+◌, ◌*◌, ◌<◌}
use native.Mathlib.Omega.{arith}
use Rattle.base_fields.specs.Answer.{choose}
use Rattle.table_writing.specs.Bodies.{code_for}
use Rattle.table_writers.specs.Tally.{needs_by}
use Rattle.table_writers.specs.declared.tally.Tally.{Tally}
use Rattle.table_writers.proofs.Body.{code-small}
use Rattle.table_writers.proofs.tally.flags_of.Goals as goal
use Rattle.table_writers.proofs.tally.flags_of.Goals.{After-code_for-2}

abbrev bit : Bool → ℕ
bit marks = choose marks 128 0

-- the codes are known
module _ (c : After-code_for-2) where
  abbrev t : Tally
  t = c.args.t

  count_code : c.code_for.result ≡ code_for t.count
  count_code = c.code_for.ensures

  index-code : c.code_for-2.result ≡ code_for (needs_by t)
  index-code = c.code_for-2.ensures ∙ ap code_for c.index_needs-needs.ensures

  codes : c.code_for.result * 4 + c.code_for-2.result < 16
  codes = omega (arith, count_code, index-code, code-small t.count, code-small (needs_by t))

pub overflow_mul-codes : goal.overflow_mul-codes
overflow_mul-codes c = omega (arith, c.code_for.ensures, code-small c.args.t.count)

pub overflow_add-codes : goal.overflow_add-codes
overflow_add-codes c = omega (arith, codes c)

pub overflow_add-result : goal.overflow_add-result
overflow_add-result c = omega (arith, codes (goal.at.overflow_add-result c).After-code_for-2)

pub returns-then-has_marks : goal.returns-then-has_marks
returns-then-has_marks c =
    omega (arith, count_code (goal.at.returns-then-has_marks c).After-code_for-2, index-code (goal.at.returns-then-has_marks c).After-code_for-2, ap bit (sym c.has_marks.ensures ∙ c.if-has_marks.true))

pub returns : goal.returns
returns c =
    omega (arith, count_code (goal.at.returns c).After-code_for-2, index-code (goal.at.returns c).After-code_for-2, ap bit (sym c.has_marks.ensures ∙ c.if-has_marks.false))
