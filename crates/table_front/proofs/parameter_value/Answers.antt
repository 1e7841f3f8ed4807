use native.Mathlib.Omega.{arith}
use Rattle.table_front.proofs.parameter_value.Goals as goal

pub read_u32-requires : goal.read_u32-requires
read_u32-requires c = let h = rw c.if-parameter.true at c.requires in omega arith

pub returns-then-parameter : goal.returns-then-parameter
returns-then-parameter c = rw c.if-parameter.true c.read_u32.ensures.0
