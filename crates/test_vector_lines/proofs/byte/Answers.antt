use mathlib.Core.Path.{sym, ◌∙◌}
use native.Mathlib.Omega.{arith}
use lib.ListN.{get_or-eq_default}
use Rattle.base_fields.proofs.Bytes.{be_at-one}
use Rattle.test_vector_lines.proofs.byte.Goals as goal

pub returns-then-at-s : goal.returns-then-at-s
returns-then-at-s c = (c.read_u8.ensures.0 ∙ be_at-one _ _, omega arith)

pub returns-else-at-s : goal.returns-else-at-s
returns-else-at-s c = (sym (get_or-eq_default c.args.s.now 0 c.if-at-s.false), omega arith)
