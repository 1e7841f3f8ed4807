-- Two numbers of half the width, one behind the other (`be_at-split`).
use native.Mathlib.Omega.{arith}
use Rattle.base_fields.proofs.Bytes.{be_at-split}
use Rattle.base_fields.proofs.read_u16.Goals as goal

pub returns : goal.returns
returns c = (let a = c.args in omega (arith, be_at-split 1 1 a.s.now a.at), omega arith)
