use mathlib.Core.Path.{sym, ◌∙◌}
use native.Mathlib.Omega.{arith}
use lib.ListN.{get_or-eq_default}
use Rattle.base_fields.proofs.Bytes.{be_at-one}
use Rattle.base_fields.proofs.byte_or_zero.Goals as goal

pub overflow_cast-result : goal.overflow_cast-result
overflow_cast-result c = omega (arith, c.shared_slice_known-1.given c.args.at)

pub returns-then-at-s : goal.returns-then-at-s
returns-then-at-s c = (sym (be_at-one _ _), omega (arith, c.shared_slice_known-1.given c.args.at))

pub returns-else-at-s : goal.returns-else-at-s
returns-else-at-s c = (sym (be_at-one _ _ ∙ get_or-eq_default c.args.s.now 0 c.if-at-s.false), omega arith)
